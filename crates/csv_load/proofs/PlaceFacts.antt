-- Where a column stands in a header.
use Rattle.std.proofs.Common.{◌≡◌, ◌∙◌, ◌<◌, ◌≤◌, ◌+◌, ℕ, zero, suc, Bool, true, false, cond, List, [], ◌∷◌, length, take, drop, get_or, Option, Some, None, refl, sym, ap, arith}
use Rattle.std.specs.Prelude.{◌==◌, count_by, if◌then◌else◌, is_some}
use Rattle.std.specs.List.{position_or_len}
use Rattle.std.proofs.lemmas.List.{take-append-drop, take_all}
use Rattle.std.proofs.lemmas.List.Sums.{count_by_more_no, count_by_more_yes, sum_by-append, sum_by-cons}
use Rattle.std.proofs.lemmas.Bool.{ne_eqb}

module _ {X : Type 0} (p : X → Bool) where
  -- among the first i none passes, or one does, at this place
  abbrev pub SeenOnce : List X → ℕ → Option ℕ → Type 0
  SeenOnce xs i None = count_by p (take i xs) ≡ 0
  SeenOnce xs i (Some k) = (count_by p (take i xs) ≡ 1) × (position_or_len p xs ≡ k)

  -- where none before it passes, the first to pass is here
  first-here : (xs : List X) (i : ℕ) (d : X) → i < length xs → count_by p (take i xs) ≡ 0 → p (get_or xs i d) ≡ true → position_or_len p xs ≡ i
  first-here [] i d lt none e = absurd (omega arith)
  first-here (x ∷ xs) zero d lt none e = rw e refl
  first-here (x ∷ xs) (suc i) d lt none e = by (p x) refl (λ k. first-here xs i d (omega arith) k e)
    where
      parts : cond (p x) 1 0 + count_by p (take i xs) ≡ 0
      parts = sym (sum_by-cons (λ y. cond (p y) 1 0) x (take i xs)) ∙ none

      by : (b : Bool) → p x ≡ b → (count_by p (take i xs) ≡ 0 → position_or_len p xs ≡ i) → position_or_len p (x ∷ xs) ≡ suc i
      by true a more = let n = rw a at parts in absurd (omega arith)
      by false a more = let n = rw a at parts in let k : count_by p (take i xs) ≡ 0 = omega arith in rw a (omega (arith, more k))

  -- one that does not pass
  pub seen-pass : (xs : List X) (i : ℕ) (d : X) (o : Option ℕ) → i < length xs → p (get_or xs i d) ≡ false → SeenOnce xs i o → SeenOnce xs (i + 1) o
  seen-pass xs i d None lt e h = count_by_more_no p xs i d lt e ∙ h
  seen-pass xs i d (Some k) lt e h = (count_by_more_no p xs i d lt e ∙ h.0, h.1)

  -- the first that passes
  pub seen-first : (xs : List X) (i : ℕ) (d : X) (o : Option ℕ) → i < length xs → p (get_or xs i d) ≡ true → is_some o ≡ false → SeenOnce xs i o → SeenOnce xs (i + 1) (Some i)
  seen-first xs i d None lt e n h = (omega (arith, count_by_more_yes p xs i d lt e), first-here xs i d lt h e)
  seen-first xs i d (Some k) lt e n h = cc

  -- a second that passes
  pub seen-twice : (xs : List X) (i : ℕ) (d : X) (o : Option ℕ) → i < length xs → p (get_or xs i d) ≡ true → is_some o ≡ true → SeenOnce xs i o
      → None ≡ (if count_by p xs == 1 then Some (position_or_len p xs) else None)
  seen-twice xs i d None lt e n h = cc
  seen-twice xs i d (Some k) lt e n h =
      let two = count_by_more_yes p xs i d lt e in
      let all : count_by p xs ≡ count_by p (take (i + 1) xs) + count_by p (drop (i + 1) xs) =
      ap (λ (l : List X). count_by p l) (sym (take-append-drop (i + 1) xs)) ∙ sum_by-append (λ x. cond (p x) 1 0) (take (i + 1) xs) (drop (i + 1) xs) in
      let more : (count_by p xs == 1) ≡ false = ne_eqb _ 1 (λ q. omega arith) in
      rw more refl

  -- all were gone through
  pub seen-all : (xs : List X) (i : ℕ) (o : Option ℕ) → length xs ≤ i → SeenOnce xs i o → o ≡ (if count_by p xs == 1 then Some (position_or_len p xs) else None)
  seen-all xs i None long h = let n : count_by p xs ≡ 0 = rw (take_all i xs long) at h in rw n refl
  seen-all xs i (Some k) long h = let n : count_by p xs ≡ 1 = rw (take_all i xs long) at h.0 in rw (n, h.1) refl
