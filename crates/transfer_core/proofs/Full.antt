-- Lists of numbers below n in which none stands twice.
use Rattle.std.proofs.Common.{◌≡◌, ℕ, zero, suc, ◌+◌, ◌<◌, ◌≤◌, List, [], ◌∷◌, ◌++◌, ◌*◌, length, take, get_or, Bool, true, false, cond, eqb, refl, sym, ap, ◌∙◌, arith, length-append}
use mathlib.Core.Logic.{dite}
use native.Mathlib.Decide.{ℕ_discrete, dec_le}
use mathlib.Core.Option.{some}
use lib.ListN.{get_elem?}
use Rattle.std.specs.List.{sum_by}
use Rattle.std.proofs.lemmas.List.Sums.{sum_by_more}
use Rattle.std.proofs.Math.Nat.{mul-suc}
use Rattle.transfer_core.specs.Actors.{morsels_of}
use Rattle.transfer_core.specs.Counts.{one_if_below, only, times, total}
use Rattle.transfer_core.proofs.Sums.{below_le, below_no, below_yes, kept_if, only_no, only_yes, times-append}

pub sum_below : (ℕ → ℕ) → ℕ → ℕ
sum_below f zero = 0
sum_below f (suc n) = sum_below f n + f n

sum_add : (f g : ℕ → ℕ) (n : ℕ) → sum_below (λ x. f x + g x) n ≡ sum_below f n + sum_below g n
unfolding sum_below
sum_add f g zero = refl
sum_add f g (suc n) = omega (arith, sum_add f g n)

sum_most : (f : ℕ → ℕ) (n : ℕ) → ((x : ℕ) → f x ≤ 1) → sum_below f n ≤ n
unfolding sum_below
sum_most f zero le = omega arith
sum_most f (suc n) le = omega (arith, le n, sum_most f n le)

sum_short : (f : ℕ → ℕ) (n x : ℕ) → ((y : ℕ) → f y ≤ 1) → x < n → f x ≡ 0 → sum_below f n + 1 ≤ n
unfolding sum_below
sum_short f zero x le less z = absurd (omega arith)
sum_short f (suc n) x le less z = dite (ℕ_discrete x n) (λ e. omega (arith, sum_most f n le, ap f (sym e), z)) (λ ne. omega (arith, le n, sum_short f n x le (omega arith) z))

sum_ones : (f : ℕ → ℕ) (n : ℕ) → ((x : ℕ) → x < n → f x ≡ 1) → sum_below f n ≡ n
unfolding sum_below
sum_ones f zero one = refl
sum_ones f (suc n) one = omega (arith, one n (omega arith), sum_ones f n (λ x h. one x (omega arith)))

sum_none : (f : ℕ → ℕ) (n : ℕ) → ((x : ℕ) → x < n → f x ≡ 0) → sum_below f n ≡ 0
unfolding sum_below
sum_none f zero none_there = refl
sum_none f (suc n) none_there = omega (arith, none_there n (omega arith), sum_none f n (λ x h. none_there x (omega arith)))

sum_only : (y n : ℕ) → y < n → sum_below (only y) n ≡ 1
unfolding sum_below
sum_only y zero h = absurd (omega arith)
sum_only y (suc n) h = dite (ℕ_discrete y n)
    (λ e. omega (arith, only_yes n y e, sum_none (only y) n (λ x l. only_no x y (λ f. omega (arith, e, f)))))
    (λ ne. omega (arith, only_no n y ne, sum_only y n (omega arith)))

sum_times : (l : List ℕ) (n : ℕ) → ((x : ℕ) → n ≤ x → times x l ≡ 0) → sum_below (λ x. times x l) n ≡ length l
sum_times [] n out = sum_none (λ x. times x []) n (λ x h. refl)
sum_times (y ∷ ys) n out =
    let inside : y < n = dite (dec_le n y) (λ h. absurd (omega (arith, out y h, only_yes y y refl))) (λ h. omega arith) in
    omega (arith, sum_add (only y) (λ x. times x ys) n, sum_only y n inside, sum_times ys n (λ x h. omega (arith, out x h)))

outside : (l : List ℕ) (n : ℕ) → ((x : ℕ) → times x l ≤ one_if_below x n) → (x : ℕ) → n ≤ x → times x l ≡ 0
outside l n le x h = omega (arith, le x, below_no x n h)

most_one : (l : List ℕ) (n : ℕ) → ((x : ℕ) → times x l ≤ one_if_below x n) → (x : ℕ) → times x l ≤ 1
most_one l n le x = omega (arith, le x, below_le x n)

pub short : (l : List ℕ) (n : ℕ) → ((x : ℕ) → times x l ≤ one_if_below x n) → length l ≤ n
short l n le = omega (arith, sum_times l n (outside l n le), sum_most (λ x. times x l) n (most_one l n le))

pub full : (l : List ℕ) (n : ℕ) → ((x : ℕ) → times x l ≤ one_if_below x n) → length l ≡ n → (x : ℕ) → x < n → 0 < times x l
full l n le all x less = dite (ℕ_discrete (times x l) 0)
    (λ z. absurd (omega (arith, sum_times l n (outside l n le), sum_short (λ y. times y l) n x (most_one l n le) less z)))
    (λ ne. omega arith)

pub counted : (l : List ℕ) (n : ℕ) → ((x : ℕ) → times x l ≡ one_if_below x n) → length l ≡ n
counted l n e = omega (arith, sum_times l n (outside l n (λ x. omega (arith, e x))), sum_ones (λ x. times x l) n (λ x h. omega (arith, e x, below_yes x n h)))

-- the lists of all members, one after another
module _ {A : Type 0} where
  pub flat : (A → List ℕ) → List A → List ℕ
  flat g [] = []
  flat g (x ∷ xs) = g x ++ flat g xs

  pub times-flat : (g : A → List ℕ) (l : List A) (x : ℕ) → times x (flat g l) ≡ total (λ v. times x (g v)) l
  unfolding flat
  times-flat g [] x = refl
  times-flat g (y ∷ ys) x = omega (arith, times-append x (g y) (flat g ys), times-flat g ys x)

  pub length-flat : (g : A → List ℕ) (l : List A) → length (flat g l) ≡ total (λ v. length (g v)) l
  unfolding flat
  length-flat g [] = refl
  length-flat g (y ∷ ys) = omega (arith, length-append (g y) (flat g ys), length-flat g ys)

-- ---- pairs of a number and another
sum_same : (f g : ℕ → ℕ) (n : ℕ) → ((x : ℕ) → f x ≡ g x) → sum_below f n ≡ sum_below g n
unfolding sum_below
sum_same f g zero same = refl
sum_same f g (suc n) same = omega (arith, same n, sum_same f g n same)

sum_le : (f g : ℕ → ℕ) (n : ℕ) → ((x : ℕ) → x < n → f x ≤ g x) → sum_below f n ≤ sum_below g n
unfolding sum_below
sum_le f g zero le = omega arith
sum_le f g (suc n) le = omega (arith, le n (omega arith), sum_le f g n (λ x h. le x (omega arith)))

kept_length : (b : Bool) (m : ℕ) (ms : List ℕ) → length (kept_if b m ms) ≡ cond b 1 0 + length ms
kept_length true m ms = omega arith
kept_length false m ms = omega arith

-- there are as many pairs as there are of each first number below n
spread : (l : List (ℕ × ℕ)) (n : ℕ) → ((i : ℕ) (x : ℕ × ℕ) → get_elem? l i ≡ some x → x.0 < n) → sum_below (λ p. length (morsels_of p l)) n ≡ length l
spread [] n inside = sum_none (λ p. length (morsels_of p [])) n (λ x h. refl)
spread (x ∷ xs) n inside = omega (
  arith,
  sum_same (λ p. length (morsels_of p (x ∷ xs))) (λ p. only x.0 p + length (morsels_of p xs)) n (λ p. kept_length (eqb x.0 p) x.1 (morsels_of p xs)),
  sum_add (only x.0) (λ p. length (morsels_of p xs)) n,
  sum_only x.0 n (inside 0 x refl),
  spread xs n (λ i y e. inside (suc i) y e),
)

-- and no more than so many in all, where each stands at most once
pub few : (l : List (ℕ × ℕ)) (n : ℕ) (g : ℕ → ℕ) → ((i : ℕ) (x : ℕ × ℕ) → get_elem? l i ≡ some x → x.0 < n) → ((p x : ℕ) → p < n → times x (morsels_of p l) ≤ one_if_below x (g p)) → length l ≤ sum_below g n
few l n g inside le = omega (arith, spread l n inside, sum_le (λ p. length (morsels_of p l)) g n (λ p h. short (morsels_of p l) (g p) (λ x. le p x h)))

pub sum_all : (c n : ℕ) → sum_below (λ _. c) n ≡ c * n
unfolding sum_below
sum_all c zero = omega arith
sum_all c (suc n) = ap (λ (k : ℕ). k + c) (sum_all c n) ∙ sym (mul-suc c n)

-- the sum over a list, by its places
pub sum_places : {A : Type 0} (g : A → ℕ) (xs : List A) (d : A) (n : ℕ) → n ≤ length xs → sum_below (λ p. g (get_or xs p d)) n ≡ sum_by g (take n xs)
unfolding sum_below
sum_places g [] d zero le = refl
sum_places g (x ∷ xs) d zero le = refl
sum_places g xs d (suc n) le = omega (arith, sum_places g xs d n (omega arith), sum_by_more g xs n d (omega arith), ap (λ (k : ℕ). sum_by g (take k xs)) (let t : suc n ≡ n + 1 = omega arith in t))
