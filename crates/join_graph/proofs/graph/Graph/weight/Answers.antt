use Rattle.std.proofs.Common.{rules, ◌≡◌, ◌≤◌, arith, subst}
use Rattle.std.proofs.lemmas.Grind.{common_steps}
use Rattle.join_graph.specs.JoinList.{IsGraph, vars_of}
use Rattle.join_graph.proofs.StoredFacts.{stored, stored-short}
use Rattle.join_graph.proofs.graph.Graph.weight.Goals as goal

child_vars : (c : goal.After-count_shared) → c.deref.result.now ≡ vars_of c.args.self.now c.args.i
child_vars c = stored (λ s. s.items) _ _ _ _ _ c.self.view_is c.requires.child c.index.ensures c.deref.ensures.value

parent_vars : (c : goal.After-count_shared) → c.deref-2.result.now ≡ vars_of c.args.self.now c.args.j
parent_vars c = stored (λ s. s.items) _ _ _ _ _ c.self.view_is c.requires.parent c.index-2.ensures c.deref-2.ensures.value

at_most : (c : goal.After-count_shared) → c.count_shared.result ≤ 64
at_most c =
    let graph : IsGraph c.args.self.now = subst IsGraph c.self.view_is c.self.invariant in
    omega (arith, c.count_shared.ensures.bounded, stored-short _ _ _ graph c.requires.child (child_vars c))

pub overflow_cast-result : goal.overflow_cast-result
overflow_cast-result c = let k = at_most c in search rules

pub returns-clause-bounded : goal.returns-clause-bounded
returns-clause-bounded c = at_most c

pub returns-clause-weight : goal.returns-clause-weight
returns-clause-weight c = rw (← child_vars c, ← parent_vars c) c.count_shared.ensures.count

pub index-requires-2 : goal.index-requires-2
index-requires-2 c = grind (arith, common_steps)
