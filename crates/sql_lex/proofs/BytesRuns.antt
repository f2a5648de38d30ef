-- Runs of bytes that pass a test.
use Rattle.std.proofs.Common.{◌≡◌, ◌∙◌, ap, refl, ℕ, suc, ◌≤◌, ◌+◌, List, [], ◌∷◌, ◌++◌, length, drop, Bool, true, false, cond, arith, inl, inr}
use Rattle.std.specs.Prelude.{◌⊎◌, Option, Some, None}
use Rattle.std.specs.List.{list_all, take_while, prefix_len}
use Rattle.std.specs.Option.{option_map}
use Rattle.std.proofs.lemmas.Bool.{false≢true, cases_Bool, and_parts, and_from}
use Rattle.std.proofs.lemmas.Option.{none-some, same_Some}
use Rattle.sql_lex.specs.Tokens.{starts}

-- the longest run of what passes a test
pub run_more : (p : ℕ → Bool) (x : ℕ) (xs : List ℕ) → p x ≡ true → take_while p (x ∷ xs) ≡ x ∷ take_while p xs
run_more p x xs e = let s : 1 + prefix_len p xs ≡ suc (prefix_len p xs) = omega arith in rw (e, s) refl

-- a run that ends at once
pub run_end : (p : ℕ → Bool) (x : ℕ) (xs : List ℕ) → p x ≡ false → take_while p (x ∷ xs) ≡ []
run_end p x xs e = rw e refl

-- a run and what stands behind it are the bytes
pub run_split : (p : ℕ → Bool) (xs : List ℕ) → xs ≡ take_while p xs ++ drop (length (take_while p xs)) xs
run_split p [] = refl
run_split p (x ∷ xs) =
    elim (cases_Bool (p x)) [
      | inl e ↦ rw (run_more p x xs e) (ap (λ (ys : List ℕ). x ∷ ys) (run_split p xs))
      | inr e ↦ rw (run_end p x xs e) refl
    ]

-- what stands behind a run fails the test
pub run_stops : (p : ℕ → Bool) (xs : List ℕ) → starts p (drop (length (take_while p xs)) xs) ≡ false
run_stops p [] = refl
run_stops p (x ∷ xs) =
    elim (cases_Bool (p x)) [
      | inl e ↦ rw (run_more p x xs e) (run_stops p xs)
      | inr e ↦ rw (run_end p x xs e) e
    ]

-- no run where the first byte fails
pub run_none : (p : ℕ → Bool) (xs : List ℕ) → starts p xs ≡ false → take_while p xs ≡ []
run_none p [] e = refl
run_none p (x ∷ xs) e = run_end p x xs e

-- a run has a byte where the first passes
pub run_some : (p : ℕ → Bool) (xs : List ℕ) → starts p xs ≡ true → 1 ≤ length (take_while p xs)
run_some p [] e = absurd (false≢true e)
run_some p (x ∷ xs) e = rw (run_more p x xs e) (omega arith)

-- bytes that all pass, with one that fails behind them, are a run
pub run_whole : (p : ℕ → Bool) (xs rest : List ℕ) → list_all p xs ≡ true → starts p rest ≡ false → take_while p (xs ++ rest) ≡ xs
run_whole p [] rest all end = run_none p rest end
run_whole p (x ∷ xs) rest all end =
    let both = and_parts (p x) (list_all p xs) all in
    run_more p x (xs ++ rest) both.0 ∙ ap (λ (ys : List ℕ). x ∷ ys) (run_whole p xs rest both.1 end)

-- which branch found something
pub cond_cases : {A : Type 0} (b : Bool) (x y : A) (o : Option A) → cond b (Some x) o ≡ Some y → ((b ≡ true) × (x ≡ y)) ⊎ ((b ≡ false) × (o ≡ Some y))
cond_cases true x y o h = inl (refl, same_Some x y h)
cond_cases false x y o h = inr (refl, h)

-- a run's bytes pass
pub run_all : (p : ℕ → Bool) (xs : List ℕ) → list_all p (take_while p xs) ≡ true
run_all p [] = refl
run_all p (x ∷ xs) =
    elim (cases_Bool (p x)) [
      | inl e ↦ rw (run_more p x xs e) (and_from (p x) (list_all p (take_while p xs)) e (run_all p xs))
      | inr e ↦ rw (run_end p x xs e) refl
    ]

-- a step that always goes on, and what it went on from
pub map_parts : {A B : Type 0} (f : A → B) (o : Option A) (y : B) → option_map f o ≡ Some y → (x : A) × (o ≡ Some x) × (f x ≡ y)
map_parts f None y h = absurd (none-some y h)
map_parts f (Some x) y h = (x, refl, cc)
