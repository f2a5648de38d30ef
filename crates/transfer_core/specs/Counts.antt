-- How often a number stands in a list, and sums over lists.
use Rattle.std.specs.Prelude.{ℕ, ◌+◌, ◌≤◌, List, [], ◌∷◌, cond, ◌==◌, nat_lt}
use Rattle.std.specs.Int.{bit_at}

-- the sum of what each member counts
abbrev pub total : {A : Type 0} → (A → ℕ) → List A → ℕ
total f [] = 0
total f (x ∷ xs) = f x + total f xs

-- 1 for the number itself, and 0 for others
abbrev pub only : ℕ → ℕ → ℕ
only y x = cond (y == x) 1 0

-- how often a number stands in a list
abbrev pub times : ℕ → List ℕ → ℕ
times x [] = 0
times x (y ∷ ys) = only y x + times x ys

-- 1 for a number below n, and 0 for others
abbrev pub one_if_below : ℕ → ℕ → ℕ
one_if_below x n = cond (nat_lt x n) 1 0

-- the first's bits are among the second's
abbrev pub Lies : ℕ → ℕ → Type 0
Lies a b = (i : ℕ) → bit_at a i ≤ bit_at b i
