-- What a join list weighs, counted relation after relation.
use Rattle.std.proofs.Common.{◌≡◌, ℕ, zero, suc, ◌+◌, ◌*◌, ◌<◌, ◌≤◌, Bool, true, false, ◌||◌, List, [], ◌∷◌, map, length, take, refl, sym, ap, ◌∙◌, add-one, arith}
use Rattle.std.specs.List.{filter, list_any, concat}
use Rattle.std.proofs.lemmas.List.{take-map}
use Rattle.std.proofs.lemmas.List.Sums.{length-filter, count_by-le-length}
use Rattle.std.proofs.lemmas.List.Folds.{list_any_more}
use Rattle.join_graph.specs.JoinList.{vars_of, is_met, IsGraph}
use Rattle.rpt_base.specs.Lists.{has}
use Rattle.rpt_base.proofs.FilterFacts.{filter-agree}
use Rattle.join_graph.specs.Weights.{variables, needed_of}
use Rattle.join_graph.proofs.SumFacts.{up, Distinct-up, has-up}
use Rattle.join_graph.proofs.NeededFacts.{surplus, surplus-more, surplus-needed, has-unique, has-concat, Distinct-unique}
use Rattle.join_graph.proofs.WeightFacts.{distinct_vars}

-- what is needed for the first i relations
abbrev pub needed_before : List (List ℕ) → ℕ → ℕ
needed_before vs i = surplus vs (variables vs) (up i)

or-comm : (a b : Bool) → (a || b) ≡ (b || a)
or-comm true true = refl
or-comm true false = refl
or-comm false true = refl
or-comm false false = refl

met-up : (vs : List (List ℕ)) (i v : ℕ) → i ≤ length vs → is_met vs (up i) v ≡ list_any (has v) (take i vs)
met-up vs zero v h = refl
met-up vs (suc i) v h =
    ap (λ b. has v (vars_of vs i) || b) (met-up vs i v (omega arith))
    ∙ or-comm (has v (vars_of vs i)) (list_any (has v) (take i vs))
    ∙ sym (list_any_more (has v) vs i [] (omega arith))
    ∙ ap (λ k. list_any (has v) (take k vs)) (add-one i)

list_any-map : {V : Type 0} (p : List ℕ → Bool) (items : V → List ℕ) (sets : List V)
    → list_any p (map items sets) ≡ list_any (λ s. p (items s)) sets
list_any-map p items [] = refl
list_any-map p items (s ∷ sets) = ap (λ b. p (items s) || b) (list_any-map p items sets)

pub needed_before-none : (vs : List (List ℕ)) → needed_before vs 0 ≡ 0
needed_before-none vs = go (variables vs)
  where
    go : (z : List ℕ) → surplus vs z [] ≡ 0
    go [] = refl
    go (v ∷ z) = omega (arith, go z)

pub needed_before-all : (vs : List (List ℕ)) → needed_before vs (length vs) ≡ needed_of vs
needed_before-all vs = surplus-needed vs (up (length vs)) (Distinct-up (length vs)) (has-up (length vs))

pub needed_before-more : {V : Type 0} (items : V → List ℕ) (sets : List V) (vs : List (List ℕ)) (i : ℕ) (xs : List ℕ) (some : List V) (k : ℕ)
    → map items sets ≡ vs → IsGraph vs → i < length vs → xs ≡ vars_of vs i → some ≡ take i sets
    → k ≡ length (filter (λ v. list_any (λ s. has v (items s)) some) xs) → needed_before vs (i + 1) ≡ needed_before vs i + k
needed_before-more items sets vs i xs some k e g l at those count =
    let more : surplus vs (variables vs) (i ∷ up i) ≡ surplus vs (variables vs) (up i) + length (filter (is_met vs (up i)) (vars_of vs i)) =
    surplus-more vs (variables vs) (up i) i (Distinct-unique (concat vs)) (distinct_vars vs g.rising i) (λ v h. has-unique v (concat vs) ∙ has-concat vs i v h) in
    let same : (v : ℕ) → is_met vs (up i) v ≡ list_any (λ s. has v (items s)) some =
    λ v. met-up vs i v (omega arith) ∙ ap (λ z. list_any (has v) (take i z)) (sym e) ∙ ap (list_any (has v)) (take-map items i sets) ∙ list_any-map (has v) items (take i sets) ∙ ap (list_any (λ s. has v (items s))) (sym those) in
    let counted : length (filter (is_met vs (up i)) (vars_of vs i)) ≡ k =
    ap length (filter-agree _ _ (vars_of vs i) same) ∙ ap (λ z. length (filter (λ v. list_any (λ s. has v (items s)) some) z)) (sym at) ∙ sym count in
    let step : needed_before vs (i + 1) ≡ surplus vs (variables vs) (i ∷ up i) = ap (λ n. surplus vs (variables vs) (up n)) (add-one i) in
    omega arith

-- a relation adds at most its own variables
pub needed_before-le : (vs : List (List ℕ)) (i : ℕ) → IsGraph vs → i ≤ length vs → needed_before vs i ≤ 64 * i
needed_before-le vs zero g l = omega (arith, needed_before-none vs)
needed_before-le vs (suc i) g l =
    let more : surplus vs (variables vs) (i ∷ up i) ≡ surplus vs (variables vs) (up i) + length (filter (is_met vs (up i)) (vars_of vs i)) =
    surplus-more vs (variables vs) (up i) i (Distinct-unique (concat vs)) (distinct_vars vs g.rising i) (λ v h. has-unique v (concat vs) ∙ has-concat vs i v h) in
    let few : length (filter (is_met vs (up i)) (vars_of vs i)) ≤ length (vars_of vs i) =
    omega (arith, length-filter (is_met vs (up i)) (vars_of vs i), count_by-le-length (is_met vs (up i)) (vars_of vs i)) in
    let short : length (vars_of vs i) ≤ 64 = g.short i [] (omega arith) in
    omega (arith, more, few, short, needed_before-le vs i g (omega arith))

-- no graph needs more than 16 relations of 64 variables can share
pub needed_of-le : (vs : List (List ℕ)) → IsGraph vs → needed_of vs ≤ 1024
needed_of-le vs g =
    let few : length vs ≤ 16 = g.few in
    omega (arith, needed_before-all vs, needed_before-le vs (length vs) g (omega arith), few)
