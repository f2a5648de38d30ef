-- The items of a chunk that pass.
use Rattle.std.proofs.Common.{◌≡◌, ℕ, zero, suc, ◌+◌, ◌-◌, ◌<◌, ◌≤◌, All, List, [], ◌∷◌, ◌++◌, length, get_or, take, take_all, Bool, true, false, cond, arith, refl, sym, ap, ◌∙◌, subst}
use Rattle.std.specs.Prelude.{filter}
use Rattle.std.specs.List.{range_with_len}
use Rattle.std.proofs.lemmas.List.{append-nil}
use Rattle.std.proofs.lemmas.List.Elements.{filter_more}
use Rattle.std.proofs.lemmas.List.FromFn.{get_or-range_with_len, length-range_with_len}

each_cons : (P : ℕ → Type 0) (x : ℕ) (xs : List ℕ) → P x → All P xs → All P (x ∷ xs)
each_cons P x xs one others zero d l = one
each_cons P x xs one others (suc k) d l = others k d (omega arith)

-- what holds of each item at which a test gives true holds of those that are kept by it
each_kept : (P : ℕ → Type 0) (test : ℕ → Bool) (xs : List ℕ) → ((k : ℕ) → k < length xs → test (get_or xs k 0) ≡ true → P (get_or xs k 0)) → All P (filter test xs)
each_kept P test [] each = λ k d l. absurd (omega arith)
each_kept P test (x ∷ xs) each = by (test x) (each 0 (omega arith)) (each_kept P test xs (λ k l e. each (suc k) (omega arith) e))
  where
    by : (b : Bool) → (b ≡ true → P x) → All P (filter test xs) → All P (cond b (x ∷ filter test xs) (filter test xs))
    by true one rest = each_cons P x (filter test xs) (one refl) rest
    by false one rest = rest

-- and the other way round
of_kept : (P : ℕ → Type 0) (test : ℕ → Bool) (xs : List ℕ) (k : ℕ) → k < length xs → test (get_or xs k 0) ≡ true → All P (filter test xs) → P (get_or xs k 0)
of_kept P test [] k l e all = absurd (omega arith)
of_kept P test (x ∷ xs) zero l e all = let t : All P (x ∷ filter test xs) = subst (λ b. All P (cond b (x ∷ filter test xs) (filter test xs))) e all in t 0 0 (omega arith)
of_kept P test (x ∷ xs) (suc k) l e all = of_kept P test xs k (omega arith) e (rest (test x) all)
  where
    rest : (b : Bool) → All P (cond b (x ∷ filter test xs) (filter test xs)) → All P (filter test xs)
    rest true t = λ n d less. t (suc n) d (omega arith)
    rest false t = t

-- ---- the same of the items from one number on, to the one before another
module _ (P : ℕ → Type 0) (test : ℕ → Bool) (from to : ℕ) where
  pub each_in : ((i : ℕ) → from ≤ i → i < to → test i ≡ true → P i) → All P (filter test (range_with_len from (to - from)))
  each_in each = each_kept P test (range_with_len from (to - from)) (λ k l e.
      let less : k < to - from = omega (arith, l, length-range_with_len from (to - from)) in
      let at = get_or-range_with_len from (to - from) k 0 less in
      subst P (sym at) (each (from + k) (omega arith) (omega arith) (ap test (sym at) ∙ e)))

  pub of_each : (i : ℕ) → from ≤ i → i < to → test i ≡ true → All P (filter test (range_with_len from (to - from))) → P i
  of_each i low high e all =
      let at : get_or (range_with_len from (to - from)) (i - from) 0 ≡ i = omega (arith, get_or-range_with_len from (to - from) (i - from) 0 (omega arith)) in
      subst P at (of_kept P test (range_with_len from (to - from)) (i - from) (omega (arith, length-range_with_len from (to - from))) (ap test at ∙ e) all)

-- ---- the buffer, once one more item was tested
abbrev pub tested : (ℕ → Bool) → ℕ → ℕ → ℕ → List ℕ
tested test from to item = filter test (take (item - from) (range_with_len from (to - from)))

module _ (test : ℕ → Bool) (from to item : ℕ) (low : from ≤ item) (high : item < to) where
  abbrev all : List ℕ
  all = range_with_len from (to - from)

  long : item - from < length all
  long = omega (arith, length-range_with_len from (to - from))

  at : get_or all (item - from) 0 ≡ item
  at = omega (arith, get_or-range_with_len from (to - from) (item - from) 0 (omega arith))

  next : tested test from to (item + 1) ≡ tested test from to item ++ cond (test item) (item ∷ []) []
  next = ap (λ (n : ℕ). filter test (take n all)) (let e : item + 1 - from ≡ item - from + 1 = omega arith in e) ∙ filter_more test all (item - from) 0 long
      ∙ ap (λ (n : ℕ). tested test from to item ++ cond (test n) (n ∷ []) []) at

  pub tested_yes : test item ≡ true → tested test from to (item + 1) ≡ tested test from to item ++ item ∷ []
  tested_yes e = next ∙ ap (λ b. tested test from to item ++ cond b (item ∷ []) []) e

  pub tested_no : test item ≡ false → tested test from to (item + 1) ≡ tested test from to item
  tested_no e = next ∙ ap (λ b. tested test from to item ++ cond b (item ∷ []) []) e ∙ append-nil (tested test from to item)

-- all were tested
pub tested_all : (test : ℕ → Bool) (from to item : ℕ) → to ≤ item → tested test from to item ≡ filter test (range_with_len from (to - from))
tested_all test from to item past = ap (filter test) (take_all (item - from) (range_with_len from (to - from)) (omega (arith, length-range_with_len from (to - from))))
