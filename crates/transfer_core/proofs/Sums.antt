-- Sums over lists that change at one place.
use Rattle.std.proofs.Common.{◌≡◌, ℕ, zero, suc, ◌+◌, ◌<◌, ◌≤◌, ◌≢◌, List, [], ◌∷◌, ◌++◌, Bool, if◌then◌else◌, sym, refl, ap, arith, cond, eq-eqb, ne_eqb, lt-ltb, le-ltb, set}
use mathlib.Core.Logic.{dite}
use native.Mathlib.Decide.{ℕ_discrete, dec_le}
use mathlib.Core.Option.{some, some-injective, some-ne-none}
use lib.ListN.{get_elem?}
use Rattle.transfer_core.specs.Counts.{one_if_below, only, times, total}

-- a list with one more at its front, or without
abbrev pub kept_if : Bool → ℕ → List ℕ → List ℕ
kept_if b m ms = if b then m ∷ ms else ms

module _ {A : Type 0} (g : A → ℕ) where
  pub total-append : (l m : List A) → total g (l ++ m) ≡ total g l + total g m
  total-append [] m = omega arith
  total-append (x ∷ xs) m = omega (arith, total-append xs m)

  pub total-set : (l : List A) (j : ℕ) (v w : A) → get_elem? l j ≡ some v → total g (set l j w) + g v ≡ total g l + g w
  total-set [] j v w e = absurd (some-ne-none v (sym e))
  total-set (x ∷ xs) zero v w e = omega (arith, ap g (some-injective x v e))
  total-set (x ∷ xs) (suc j) v w e = omega (arith, total-set xs j v w e)

  pub term_le : (l : List A) (j : ℕ) (v : A) → get_elem? l j ≡ some v → g v ≤ total g l
  term_le [] j v e = absurd (some-ne-none v (sym e))
  term_le (x ∷ xs) zero v e = omega (arith, ap g (some-injective x v e))
  term_le (x ∷ xs) (suc j) v e = omega (arith, term_le xs j v e)

  -- where h is at most g at each, and less by d at one place, so are their sums
  pub total-le : (h : A → ℕ) → ((a : A) → h a ≤ g a) → (l : List A) (j : ℕ) (v : A) → get_elem? l j ≡ some v → total h l + g v ≤ total g l + h v
  total-le h le [] j v e = absurd (some-ne-none v (sym e))
  total-le h le (x ∷ xs) zero v e = omega (arith, ap g (some-injective x v e), ap h (some-injective x v e), all xs)
    where
      all : (m : List A) → total h m ≤ total g m
      all [] = omega arith
      all (y ∷ ys) = omega (arith, le y, all ys)
  total-le h le (x ∷ xs) (suc j) v e = omega (arith, le x, total-le h le xs j v e)

  -- where g is 0 wherever p is, and one place has all of p, it has all of g
  pub alone : (p : A → ℕ) (l : List A) (j : ℕ) (v : A) → ((k : ℕ) (a : A) → get_elem? l k ≡ some a → p a ≡ 0 → g a ≡ 0) → get_elem? l j ≡ some v → total p l ≡ p v → total g l ≡ g v
  alone p [] j v none_there e all = absurd (some-ne-none v (sym e))
  alone p (x ∷ xs) zero v none_there e all = omega (arith, ap g (some-injective x v e), rest xs (λ k a h. none_there (suc k) a h) (omega (arith, ap p (some-injective x v e))))
    where
      rest : (m : List A) → ((k : ℕ) (a : A) → get_elem? m k ≡ some a → p a ≡ 0 → g a ≡ 0) → total p m ≡ 0 → total g m ≡ 0
      rest [] h z = refl
      rest (y ∷ ys) h z = omega (arith, h 0 y refl (omega arith), rest ys (λ k a f. h (suc k) a f) (omega arith))
  alone p (x ∷ xs) (suc j) v none_there e all = let le = here xs j v e in omega (arith, none_there 0 x refl (omega arith), alone p xs j v (λ k a h. none_there (suc k) a h) e (omega arith))
    where
      here : (m : List A) (k : ℕ) (u : A) → get_elem? m k ≡ some u → p u ≤ total p m
      here [] k u e = absurd (some-ne-none u (sym e))
      here (y ∷ ys) zero u e = omega (arith, ap p (some-injective y u e))
      here (y ∷ ys) (suc k) u e = omega (arith, here ys k u e)

pub times-append : (x : ℕ) (l m : List ℕ) → times x (l ++ m) ≡ times x l + times x m
times-append x [] m = omega arith
times-append x (y ∷ ys) m = omega (arith, times-append x ys m)

pub times-one : (x y : ℕ) → times x (y ∷ []) ≡ only y x
times-one x y = omega arith

pub below_yes : (x n : ℕ) → x < n → one_if_below x n ≡ 1
below_yes x n h = ap (λ b. cond b 1 0) (lt-ltb x n h)

pub below_no : (x n : ℕ) → n ≤ x → one_if_below x n ≡ 0
below_no x n h = ap (λ b. cond b 1 0) (le-ltb x n h)

pub below_le : (x n : ℕ) → one_if_below x n ≤ 1
below_le x n = dite (dec_le n x) (λ h. omega (arith, below_no x n h)) (λ h. let l : x < n = omega arith in omega (arith, below_yes x n l))

pub only_yes : (x n : ℕ) → n ≡ x → only n x ≡ 1
only_yes x n e = ap (λ b. cond b 1 0) (eq-eqb n x e)

pub only_no : (x n : ℕ) → n ≢ x → only n x ≡ 0
only_no x n ne = ap (λ b. cond b 1 0) (ne_eqb n x ne)

pub below_next : (x n : ℕ) → one_if_below x (n + 1) ≡ one_if_below x n + only n x
below_next x n = dite (ℕ_discrete n x)
    (λ e. omega (arith, below_yes x (n + 1) (omega arith), below_no x n (omega arith), only_yes x n e))
    (λ ne. dite (dec_le n x)
    (λ h. omega (arith, below_no x (n + 1) (omega arith), below_no x n h, only_no x n ne))
    (λ h. omega (arith, below_yes x (n + 1) (omega arith), below_yes x n (omega arith), only_no x n ne)))
