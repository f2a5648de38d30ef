use Rattle.std.proofs.Common.{rules, ◌≡◌, ◌+◌, ℕ, ◌<◌, ◌≤◌, List, map, length, take, arith, ap, refl, sym, ◌∙◌, Vec, Global}
use Rattle.std.proofs.lemmas.List.{length-map}
use Rattle.join_graph.specs.JoinList.{vars_of}
use Rattle.join_graph.specs.Weights.{needed_of}
use Rattle.join_graph.proofs.StoredFacts.{stored, stored-short}
use Rattle.join_graph.proofs.NeededSteps.{needed_before, needed_before-none, needed_before-more, needed_before-all}
use Rattle.join_graph.proofs.graph.Graph.needed.Goals as goal

abbrev sets : List (Vec ℕ Global) → List (List ℕ)
sets xs = map (λ s. s.items) xs

below : (c : goal.After-count_met-met) → c.loop-i.i < length (sets c.self.inside.var_sets.items)
below c = omega (arith, c.loop-i-test.true, c.len-i-end.ensures, length-map c.self.inside.var_sets.items (λ s. s.items))

vars : (c : goal.After-count_met-met) → c.deref-in-loop-i.result.now ≡ vars_of (sets c.self.inside.var_sets.items) c.loop-i.i
vars c = stored (λ s. s.items) _ _ _ _ _ refl (below c) c.index.ensures c.deref-in-loop-i.ensures.value

at_most : (c : goal.After-count_met-met) → c.count_met-met.result ≤ 64
at_most c = omega (arith, c.count_met-met.ensures.bounded, stored-short _ _ _ c.self.invariant (below c) (vars c))

pub loop-i-init : goal.loop-i-init
loop-i-init c = record { sum = sym (needed_before-none (sets c.self.inside.var_sets.items)); bounded = omega arith }

pub overflow_cast-sum : goal.overflow_cast-sum
overflow_cast-sum c = let k = at_most c in search rules

pub overflow_add-sum : goal.overflow_add-sum
overflow_add-sum c =
    let k = at_most c in
    let few : length (sets c.self.inside.var_sets.items) ≤ 16 = c.self.invariant.few in
    let b = below c in
    let s = c.loop-i.invariant.bounded in
    search rules

pub loop-i-preserved : goal.loop-i-preserved
loop-i-preserved c =
    let k = at_most c in
    let some : take c.loop-i.i c.deref.result.now ≡ take c.loop-i.i c.self.inside.var_sets.items =
    ap (λ z. take c.loop-i.i z) c.deref.ensures.value in
    record {
      sum = ap (λ z. z + c.count_met-met.result) c.loop-i.invariant.sum ∙ sym (needed_before-more (λ s. s.items) c.self.inside.var_sets.items _ c.loop-i.i _ _ _ refl c.self.invariant (below c) (vars c) some c.count_met-met.ensures.count);
      bounded = omega (arith, c.loop-i.invariant.bounded);
    }

pub returns : goal.returns
returns c =
    let e : c.loop-i.i ≡ length (sets c.self.inside.var_sets.items) =
    omega (arith, c.loop-i-test.false, c.loop-i.auto.i-end, c.len-i-end.ensures, length-map c.self.inside.var_sets.items (λ s. s.items)) in
    c.loop-i.invariant.sum ∙ ap (needed_before (sets c.self.inside.var_sets.items)) e ∙ needed_before-all (sets c.self.inside.var_sets.items) ∙ ap needed_of c.self.view_is
