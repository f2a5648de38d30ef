-- A bit for each member of a list, set where a test passes, for as many members as have been tested.
use Rattle.std.proofs.Common.{◌≡◌, ◌∙◌, ◌<◌, ◌≤◌, ◌+◌, ◌-◌, ℕ, suc, Bool, true, false, List, [], ◌∷◌, ◌++◌, length, map, take, get_or, refl, ap, sym, subst, append_assoc, arith, length-append}
use Rattle.std.specs.Prelude.{replicate}
use Rattle.std.proofs.Math.ListN.{set}
use Rattle.std.proofs.Math.Seq.{set-append_seam, take-length}
use Rattle.std.proofs.lemmas.List.{length-map, length-replicate, map-append, take_more, length-take-le, append-nil}

module _ {X : Type 0} (test : X → Bool) (xs : List X) where
  -- the first members' bits, and none behind them
  unfoldable pub marks : ℕ → List Bool
  marks i = map test (take i xs) ++ replicate (length xs - i) false

  fewer : (i : ℕ) → i < length xs → replicate (length xs - i) false ≡ false ∷ replicate (length xs - (i + 1)) false
  fewer i lt = let e : length xs - i ≡ suc (length xs - (i + 1)) = omega arith in rw e refl

  front-length : (i : ℕ) → i ≤ length xs → length (map test (take i xs)) ≡ i
  front-length i le = length-map (take i xs) test ∙ length-take-le i xs le

  pub marks-start : replicate (length xs) false ≡ marks 0
  unfolding marks
  marks-start = let e : length xs - 0 ≡ length xs = omega arith in rw e refl

  pub marks-length : (i : ℕ) → i ≤ length xs → length (marks i) ≡ length xs
  unfolding marks
  marks-length i le = omega (arith, length-append (map test (take i xs)) (replicate (length xs - i) false), front-length i le, length-replicate (length xs - i) false)

  -- one member more
  bits-more : (i : ℕ) (d : X) (b : Bool) → i < length xs → test (get_or xs i d) ≡ b
      → marks (i + 1) ≡ map test (take i xs) ++ b ∷ replicate (length xs - (i + 1)) false
  unfolding marks
  bits-more i d b lt h = rw (take_more xs i d lt, map-append, h) (append_assoc (map test (take i xs)) (b ∷ []) (replicate (length xs - (i + 1)) false))

  pub marks-set : (i : ℕ) (d : X) → i < length xs → test (get_or xs i d) ≡ true → set (marks i) i true ≡ marks (i + 1)
  unfolding marks
  marks-set i d lt h =
      let front = map test (take i xs) in
      let rest = replicate (length xs - (i + 1)) false in
      let P : ℕ → Type 0 = λ k. set (front ++ false ∷ rest) k true ≡ front ++ true ∷ rest in
      ap (λ r. set (front ++ r) i true) (fewer i lt) ∙ subst P (front-length i (omega arith)) (set-append_seam front false rest true) ∙ sym (bits-more i d true lt h)

  pub marks-skip : (i : ℕ) (d : X) → i < length xs → test (get_or xs i d) ≡ false → marks i ≡ marks (i + 1)
  unfolding marks
  marks-skip i d lt h = ap (λ r. map test (take i xs) ++ r) (fewer i lt) ∙ sym (bits-more i d false lt h)

  pub marks-whole : marks (length xs) ≡ map test xs
  unfolding marks
  marks-whole = let e : length xs - length xs ≡ 0 = omega arith in rw (e, take-length) (append-nil (map test xs))
