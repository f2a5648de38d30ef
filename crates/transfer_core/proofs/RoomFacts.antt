-- Actors keep within their room.
use Rattle.std.proofs.Common.{◌≡◌, ℕ, zero, suc, ◌+◌, ◌-◌, ◌*◌, ◌/◌, ◌<◌, ◌≤◌, ⊎_elim, List, [], ◌∷◌, ◌++◌, length, map, Bool, true, false, ◌&&◌, ◌||◌, sym, refl, ap, ◌∙◌, subst, arith, eqb, eq-eqb, ne_eqb, if◌then◌else◌, true≢false}
use mathlib.Core.Logic.{dite}
use native.Mathlib.Decide.{ℕ_discrete}
use mathlib.Core.Option.{some, some-injective, some-ne-none}
use lib.ListN.{get_elem?}
use Rattle.std.proofs.lemmas.Nat.{div-add-mod'}
use Rattle.std.proofs.lemmas.List.{length-map}
use Rattle.std.proofs.Math.Nat.{mod-lt}
use Rattle.transfer_core.specs.Actors.{is_listed, morsels_of}
use Rattle.transfer_core.specs.Counts.{one_if_below, only, times}
use Rattle.transfer_core.specs.States.{AreDifferent}
use Rattle.transfer_core.proofs.Full.{few, sum_all}
use Rattle.transfer_core.proofs.Lists.{at_snoc}
use Rattle.transfer_core.proofs.Sums.{below_yes, kept_if, only_no, only_yes}

same_pair : (a b i q : ℕ) → Bool
same_pair a b i q = eqb a i && eqb b q

either_false : (a b : Bool) → (a || b) ≡ false → (a ≡ false) × (b ≡ false)
either_false true b e = cc e
either_false false b e = (refl, e)

turn : (a b i q : ℕ) → (eqb a i && eqb b q) ≡ false → (eqb i a && eqb q b) ≡ false
turn a b i q h = dite (ℕ_discrete i a)
    (λ e. dite (ℕ_discrete q b)
    (λ f. absurd (true≢false (sym (λ k. (eq-eqb a i (sym e)) k && (eq-eqb b q (sym f)) k) ∙ h)))
    (λ ne. (λ k. eqb i a && ne_eqb q b ne k) ∙ and_no (eqb i a)))
    (λ ne. λ k. ne_eqb i a ne k && eqb q b)
  where
    and_no : (c : Bool) → (c && false) ≡ false
    and_no true = refl
    and_no false = refl

-- what is listed once another put joins
listed_snoc : (i q a b : ℕ) (xs : List (ℕ × ℕ)) → is_listed i q xs ≡ false → (eqb a i && eqb b q) ≡ false → is_listed i q (xs ++ (a, b) ∷ []) ≡ false
listed_snoc i q a b [] h e = λ k. e k || false
listed_snoc i q a b (x ∷ xs) h e = let t = either_false (eqb x.0 i && eqb x.1 q) (is_listed i q xs) h in λ k. t.0 k || listed_snoc i q a b xs t.1 e k

pub different_snoc : (i q : ℕ) (xs : List (ℕ × ℕ)) → AreDifferent xs → is_listed i q xs ≡ false → AreDifferent (xs ++ (i, q) ∷ [])
different_snoc i q [] d h = (refl, tt)
different_snoc i q (x ∷ xs) d h = let t = either_false (eqb x.0 i && eqb x.1 q) (is_listed i q xs) h in
    (listed_snoc x.0 x.1 i q xs d.0 (turn x.0 x.1 i q t.0), different_snoc i q xs d.1 t.1)

pub pipes_snoc : (n p m : ℕ) (xs : List (ℕ × ℕ)) → p < n → ((i : ℕ) (x : ℕ × ℕ) → get_elem? xs i ≡ some x → x.0 < n) → (i : ℕ) (x : ℕ × ℕ) → get_elem? (xs ++ (p, m) ∷ []) i ≡ some x → x.0 < n
pipes_snoc n p m xs less all i x e = ⊎_elim (λ t. all i x t) (λ (t : (p, m) ≡ x). subst (λ (y : ℕ × ℕ). y.0 < n) t less) (at_snoc xs (p, m) x i e)

-- what holds with and without one more holds after a push
pub after_push : {A : Type 0} (P : List A → Type 0) (xs : List A) (x : A) (b : Bool) → P xs → P (xs ++ x ∷ []) → P (if b then xs ++ x ∷ [] else xs)
after_push P xs x true was more = more
after_push P xs x false was more = was

-- ---- the puts of a morsel
-- a put as its port, and its item's place in the morsel
turned : ℕ → ℕ × ℕ → ℕ × ℕ
turned base x = (x.1, x.0 - base)

Inside : ℕ → ℕ → List (ℕ × ℕ) → Type 0
Inside base size xs = (i : ℕ) (x : ℕ × ℕ) → get_elem? xs i ≡ some x → (base ≤ x.0) × (x.0 < base + size)

-- a put that isn't listed does not stand there
unlisted : (base size a b : ℕ) (xs : List (ℕ × ℕ)) → base ≤ a → Inside base size xs → is_listed a b xs ≡ false → times (a - base) (morsels_of b (map (turned base) xs)) ≡ 0
unfolding turned Inside
unlisted base size a b [] le inside h = refl
unlisted base size a b (x ∷ xs) le inside h = let rest = unlisted base size a b xs le (λ i y e. inside (suc i) y e) parts.1 in dite (ℕ_discrete x.1 b)
    (λ e. omega (arith, ap (λ (c : Bool). times (a - base) (kept_if c (x.0 - base) (morsels_of b (map (turned base) xs)))) (eq-eqb x.1 b e), only_no (a - base) (x.0 - base) (λ f. absurd (other e f)), rest))
    (λ ne. ap (λ (c : Bool). times (a - base) (kept_if c (x.0 - base) (morsels_of b (map (turned base) xs)))) (ne_eqb x.1 b ne) ∙ rest)
  where
    parts : ((eqb x.0 a && eqb x.1 b) ≡ false) × (is_listed a b xs ≡ false)
    parts = either_false (eqb x.0 a && eqb x.1 b) (is_listed a b xs) h

    other : x.1 ≡ b → x.0 - base ≡ a - base → ⊥
    other e f = let same : x.0 ≡ a = omega (arith, f, le, (inside 0 x refl).0) in
        true≢false (sym (λ k. (eq-eqb x.0 a same) k && (eq-eqb x.1 b e) k) ∙ parts.0)

once_each : (base size q y : ℕ) (xs : List (ℕ × ℕ)) → AreDifferent xs → Inside base size xs → times y (morsels_of q (map (turned base) xs)) ≤ one_if_below y size
unfolding turned Inside
once_each base size q y [] d inside = omega arith
once_each base size q y (x ∷ xs) d inside = let rest = once_each base size q y xs d.1 (λ i z g. inside (suc i) z g) in dite (ℕ_discrete x.1 q)
    (λ e. dite (ℕ_discrete (x.0 - base) y)
    (λ f. omega (
      arith,
      kept e,
      only_yes y (x.0 - base) f,
      below_yes y size (omega (arith, f, (inside 0 x refl).0, (inside 0 x refl).1)),
      subst (λ (n : ℕ). times n (morsels_of q (map (turned base) xs)) ≡ 0) f (subst (λ (n : ℕ). times (x.0 - base) (morsels_of n (map (turned base) xs)) ≡ 0) e
          (unlisted base size x.0 x.1 xs (inside 0 x refl).0 (λ i z g. inside (suc i) z g) d.0)),
    ))
    (λ ne. omega (arith, kept e, only_no y (x.0 - base) ne, rest)))
    (λ ne. omega (arith, ap (λ (c : Bool). times y (kept_if c (x.0 - base) (morsels_of q (map (turned base) xs)))) (ne_eqb x.1 q ne), rest))
  where
    kept : x.1 ≡ q → times y (morsels_of q (map (turned base) (x ∷ xs))) ≡ only (x.0 - base) y + times y (morsels_of q (map (turned base) xs))
    kept e = ap (λ (c : Bool). times y (kept_if c (x.0 - base) (morsels_of q (map (turned base) xs)))) (eq-eqb x.1 q e)

ports_in : (ports base : ℕ) (xs : List (ℕ × ℕ)) → ((i : ℕ) (x : ℕ × ℕ) → get_elem? xs i ≡ some x → x.1 < ports) → (i : ℕ) (z : ℕ × ℕ) → get_elem? (map (turned base) xs) i ≡ some z → z.0 < ports
unfolding turned
ports_in ports base [] h i z e = absurd (some-ne-none z (sym e))
ports_in ports base (x ∷ xs) h zero z e = subst (λ (y : ℕ × ℕ). y.0 < ports) (some-injective (turned base x) z e) (h 0 x refl)
ports_in ports base (x ∷ xs) h (suc i) z e = ports_in ports base xs (λ k y f. h (suc k) y f) i z e

-- different puts of a morsel are no more than its items by the ports
pub puts_fit : (size m ports : ℕ) (xs : List (ℕ × ℕ)) → 0 < size → AreDifferent xs → ((i : ℕ) (x : ℕ × ℕ) → get_elem? xs i ≡ some x → (x.0 / size ≡ m) × (x.1 < ports)) → length xs ≤ size * ports
unfolding Inside
puts_fit size m ports xs some_size d all = omega (
  arith,
  length-map xs (turned (m * size)),
  few (map (turned (m * size)) xs) ports (λ _. size) (ports_in ports (m * size) xs (λ i x e. (all i x e).1)) (λ q y l. once_each (m * size) size q y xs d (λ i x e. in_morsel x.0 (all i x e).0)),
  sum_all size ports,
)
  where
    in_morsel : (i : ℕ) → i / size ≡ m → (m * size ≤ i) × (i < m * size + size)
    in_morsel i e = let t = div-add-mod' i size in let u = mod-lt i some_size in let v = ap (λ (n : ℕ). n * size) e in (omega (arith, t, v), omega (arith, t, u, v))

-- nothing stands in an empty list
pub none_at : (n : ℕ) (xs : List (ℕ × ℕ)) → xs ≡ [] → (i : ℕ) (x : ℕ × ℕ) → get_elem? xs i ≡ some x → x.0 < n
none_at n xs e i x h = absurd (some-ne-none x (sym (ap (λ (l : List (ℕ × ℕ)). get_elem? l i) (sym e) ∙ h)))
