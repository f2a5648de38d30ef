-- Lists in order, and lists of different numbers.
use Rattle.std.proofs.Common.{◌≡◌, ◌≢◌, ◌∙◌, ◌<◌, ◌≤◌, ◌⊎◌, ℕ, zero, suc, List, [], ◌∷◌, eqb, length, get_or, inl, inr, refl, sym, subst, arith}
use Rattle.std.proofs.lemmas.Bool.{eqb-true}
use Rattle.std.proofs.lemmas.Bool.Decides.{Decides-eqb}
use Rattle.std.proofs.lemmas.List.Elements.{All-contains}
use Rattle.std.proofs.lemmas.Map.Made.{IsDistinct-from_AllPairs}
use Rattle.std.proofs.lemmas.Map.Steps.{length-le_from_distinct_below}
use Rattle.std.proofs.lemmas.Map.Views.{Contains-from_any}
use Rattle.std.specs.Prelude.{All, AllPairs, Contains}

module _ {X : Type 0} where
  -- a member is the first or a later one
  contains-cases : (x z : X) (xs : List X) → Contains (x ∷ xs) z → (x ≡ z) ⊎ Contains xs z
  contains-cases x z xs (zero, lt, e) = inl e
  contains-cases x z xs (suc k, lt, e) = inr (k, omega arith, e)

  -- a later member is a member
  contains-later : (x z : X) (xs : List X) → Contains xs z → Contains (x ∷ xs) z
  contains-later x z xs (k, lt, e) = (suc k, omega arith, e)

module _ {X : Type 0} (Before : X → X → Type 0) (not_both : (x y : X) → Before x y → Before y x → ⊥) where
  -- the first is before the later ones
  first-before : (x z : X) (xs : List X) → AllPairs Before (x ∷ xs) → Contains xs z → Before x z
  first-before x z xs rise (k, lt, e) = subst (Before x) e (rise zero (suc k) z (omega arith) (omega arith))

  -- the first members of two lists with the same members are one
  same-first : (x y : X) (xs ys : List X) → AllPairs Before (x ∷ xs) → AllPairs Before (y ∷ ys) → Contains (y ∷ ys) x → Contains (x ∷ xs) y → x ≡ y
  same-first x y xs ys rx ry cx cy = by (contains-cases y x ys cx) (contains-cases x y xs cy)
    where
      by : (y ≡ x) ⊎ Contains ys x → (x ≡ y) ⊎ Contains xs y → x ≡ y
      by (inl e) _ = sym e
      by _ (inl e) = e
      by (inr g) (inr h) = absurd (not_both x y (first-before x y xs rx h) (first-before y x ys ry g))

  -- a later member of one list is a later one of the other
  same-rest : (x y z : X) (xs ys : List X) → x ≡ y → AllPairs Before (x ∷ xs) → Contains (y ∷ ys) z → Contains xs z → Contains ys z
  same-rest x y z xs ys e rise cz c = by (contains-cases y z ys cz)
    where
      by : (y ≡ z) ⊎ Contains ys z → Contains ys z
      by (inl f) =
          let P : X → Type 0 = λ w. Before w z in
          let itself : Before z z = subst P (e ∙ f) (first-before x z xs rise c) in
          absurd (not_both z z itself itself)
      by (inr g) = g

  -- what comes after the first is in order too
  rest-rise : (x : X) (xs : List X) → AllPairs Before (x ∷ xs) → AllPairs Before xs
  rest-rise x xs rise i j d lt within = rise (suc i) (suc j) d (omega arith) (omega arith)

  -- two lists in order with the same members are one
  pub ordered-same : (xs ys : List X) → AllPairs Before xs → AllPairs Before ys → ((z : X) → Contains xs z → Contains ys z) → ((z : X) → Contains ys z → Contains xs z) → xs ≡ ys
  ordered-same [] [] rx ry forth back = refl
  ordered-same [] (y ∷ ys) rx ry forth back = absurd (let h = back y (zero, omega arith, refl) in omega (arith, h.1))
  ordered-same (x ∷ xs) [] rx ry forth back = absurd (let h = forth x (zero, omega arith, refl) in omega (arith, h.1))
  ordered-same (x ∷ xs) (y ∷ ys) rx ry forth back =
      let e = same-first x y xs ys rx ry (forth x (zero, omega arith, refl)) (back y (zero, omega arith, refl)) in
      let rest = ordered-same xs ys (rest-rise x xs rx) (rest-rise y ys ry)
      (λ z c. same-rest x y z xs ys e rx (forth z (contains-later x z xs c)) c)
      (λ z c. same-rest y x z ys xs (sym e) ry (back z (contains-later y z ys c)) c) in
      rw (e, rest) refl

-- the members of a list, where there is one for each place
pub collect : {X : Type 0} (P : ℕ → X → Type 0) (n : ℕ) → ((k : ℕ) → k < n → (x : X) × P k x) → (xs : List X) × (length xs ≡ n) × ((k : ℕ) (d : X) → k < n → P k (get_or xs k d))
collect P zero some = ([], refl, λ k d lt. absurd (omega arith))
collect {X} P (suc n) some =
    let first = some zero (omega arith) in
    let rest = collect (λ k x. P (suc k) x) n (λ k lt. some (suc k) (omega arith)) in
    (first.0 ∷ rest.0, omega (arith, rest.1), at first.0 rest.0 first.1 rest.2)
  where
    at : (x : X) (xs : List X) → P zero x → ((k : ℕ) (d : X) → k < n → P (suc k) (get_or xs k d)) → (k : ℕ) (d : X) → k < suc n → P k (get_or (x ∷ xs) k d)
    at x xs p rest zero d within = p
    at x xs p rest (suc k) d within = rest k d (omega arith)

-- if each number below n is related to one below m, and no two to the same, then n is at most m
pub le-from-apart : (R : ℕ → ℕ → Type 0) (m n : ℕ) → ((i j c : ℕ) → i < j → j < n → R i c → R j c → ⊥) → ((k : ℕ) → k < n → (c : ℕ) × (c < m) × R k c) → n ≤ m
le-from-apart R m n apart some =
    let cs = collect (λ k c. (c < m) × R k c) n (λ k lt. (let s = some k lt in (s.0, (s.1, s.2)))) in
    let long : length cs.0 ≡ n = cs.1 in
    let differ : AllPairs (λ x y. x ≢ y) cs.0 = λ i j d lt within e.
    (let second : R j (get_or cs.0 j d) = (cs.2 j d (omega arith)).1 in
    apart i j (get_or cs.0 j d) lt (omega arith) (subst (R i) e (cs.2 i d (omega arith)).1) second) in
    let below : All (λ c. c < m) cs.0 = λ k d lt. (cs.2 k d (omega arith)).0 in
    let few : length cs.0 ≤ m = length-le_from_distinct_below cs.0 m (IsDistinct-from_AllPairs Decides-eqb cs.0 differ) (λ q h. All-contains (λ c. c < m) cs.0 q below (Contains-from_any {eq = eqb} eqb-true q cs.0 h)) in
    omega arith
