-- Weights: they are the same either way round, they are bounded, and there is one greatest.
use Rattle.std.proofs.Common.{◌≡◌, ℕ, suc, ◌+◌, ◌<◌, ◌≤◌, Bool, true, false, ◌&&◌, List, [], ◌∷◌, length, get_or, refl, sym, ap, ◌∙◌, subst, inl, inr, eqb, arith}
use Rattle.std.specs.List.{filter, sum_by}
use Rattle.std.specs.List.Sorted.{IsStrictlyIncreasing}
use Rattle.std.proofs.lemmas.Bool.{ne_eqb, cases_lt, or_from}
use Rattle.std.proofs.lemmas.List.Sums.{get_or-le-sum_by, length-filter, count_by-le-length}
use Rattle.std.proofs.lemmas.List.{get_or_past}
use Rattle.std.proofs.lemmas.List.Kept.{AllPairs-from_increasing}
use Rattle.join_graph.specs.JoinList.{AreRising, vars_of}
use Rattle.rpt_base.specs.Lists.{has}
use Rattle.join_graph.specs.Weights.{weight_of, total, IsBest}
use Rattle.join_graph.proofs.SumFacts.{Distinct, add-ones, add-same, has-filter, Distinct-filter}

-- what is below each member is none
has-below : (x : ℕ) (xs : List ℕ) → ((k : ℕ) → k < length xs → x < get_or xs k 0) → has x xs ≡ false
has-below x [] h = refl
has-below x (y ∷ ys) h =
    let first : x < y = h 0 (omega arith) in
    or_from (eqb x y) (has x ys) (ne_eqb x y (λ e. absurd (omega arith))) (has-below x ys (λ k l. h (suc k) (omega arith)))

Distinct-rising : (xs : List ℕ) → IsStrictlyIncreasing xs → Distinct xs
Distinct-rising [] h = tt
Distinct-rising (x ∷ xs) h = (has-below x xs (λ k l. from_pairs k l), Distinct-rising xs (λ k l. rest k l))
  where
    from_pairs : (k : ℕ) → k < length xs → x < get_or xs k 0
    from_pairs k l = AllPairs-from_increasing (x ∷ xs) h 0 (suc k) 0 (omega arith) (omega arith)

    rest : (k : ℕ) → k + 1 < length xs → get_or xs k 0 < get_or xs (k + 1) 0
    rest k l =
        let one : get_or xs k 0 < get_or (x ∷ xs) (suc k + 1) 0 = h (suc k) (omega arith) in
        let e : suc k + 1 ≡ suc (k + 1) = omega arith in
        subst (λ i. get_or xs k 0 < get_or (x ∷ xs) i 0) e one

-- a relation has each of its variables once
pub distinct_vars : (vs : List (List ℕ)) → AreRising vs → (r : ℕ) → Distinct (vars_of vs r)
distinct_vars vs h r =
    elim (cases_lt r (length vs)) [
      | inl inside ↦ Distinct-rising (vars_of vs r) (h r [] inside)
      | inr past ↦ subst Distinct (sym (get_or_past vs r [] past)) tt
    ]

and-comm : (a b : Bool) → (a && b) ≡ (b && a)
and-comm true true = refl
and-comm true false = refl
and-comm false true = refl
and-comm false false = refl

-- two relations share as many variables either way round
pub weight_of-comm : (vs : List (List ℕ)) → AreRising vs → (i j : ℕ) → weight_of vs i j ≡ weight_of vs j i
weight_of-comm vs h i j =
    let a : List ℕ = vars_of vs i in
    let b : List ℕ = vars_of vs j in
    sym (add-ones _)
    ∙ add-same (λ x. 1) (filter (λ v. has v b) a) (filter (λ v. has v a) b)
    (Distinct-filter (λ v. has v b) a (distinct_vars vs h i)) (Distinct-filter (λ v. has v a) b (distinct_vars vs h j))
    (λ v. has-filter v (λ u. has u b) a ∙ and-comm (has v a) (has v b) ∙ sym (has-filter v (λ u. has u a) b))
    ∙ add-ones _

-- no pair weighs more than all variables of all relations
pub weight_of-le : (vs : List (List ℕ)) (i j : ℕ) → weight_of vs i j ≤ sum_by length vs
weight_of-le vs i j =
    let one : weight_of vs i j ≤ length (vars_of vs i) = omega (arith, length-filter (λ v. has v (vars_of vs j)) (vars_of vs i), count_by-le-length (λ v. has v (vars_of vs j)) (vars_of vs i)) in
    elim (cases_lt i (length vs)) [
      | inl inside ↦ omega (arith, get_or-le-sum_by length vs i [] inside)
      | inr past ↦ let none : length (vars_of vs i) ≡ 0 = ap length (get_or_past vs i [] past) in omega arith
    ]

-- there is one greatest weight
pub one-best : (n : ℕ) (weight : ℕ → ℕ → ℕ) (a b : ℕ) → IsBest n weight a → IsBest n weight b → a ≡ b
one-best n weight a b h k =
    let below : total weight h.links ≤ b = k.greatest h.root h.links h.parents in
    let above : total weight k.links ≤ a = h.greatest k.root k.links k.parents in
    omega (arith, h.has_it, k.has_it)
