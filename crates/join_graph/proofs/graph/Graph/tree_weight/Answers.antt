use Rattle.std.proofs.Common.{rules, ◌≡◌, ◌+◌, ◌≤◌, length, subst, sym, ◌∙◌, arith}
use Rattle.std.proofs.lemmas.Grind.{common_steps}
use Rattle.join_graph.specs.JoinList.{IsGraph}
use Rattle.join_graph.specs.Weights.{needed_of, total, weight_of}
use Rattle.join_graph.proofs.TreeFacts.{tree-le, tree-joins, tree-link, tree-room, tree-sum}
use Rattle.join_graph.proofs.graph.Graph.tree_weight.Goals as goal

sum_is : (c : goal.After-loop-link) → length c.as_slice-link-items.result.now ≤ c.loop-link.link-index → c.loop-link.sum ≡ total (weight_of c.args.self.now) c.args.tree.now.links
sum_is c past =
    tree-sum c.args.self.now (subst IsGraph c.self.view_is c.self.invariant) c.args.tree.now.root c.args.tree.now.links c.requires
    c.as_slice-link-items.result.now c.as_slice-link-items.ensures c.loop-link.link-index past c.loop-link.sum c.loop-link.invariant

pub weight-sum-requires-clause-child : goal.weight-sum-requires-clause-child
weight-sum-requires-clause-child c =
    (tree-link c.args.self.now (subst IsGraph c.self.view_is c.self.invariant) c.args.tree.now.root c.args.tree.now.links c.requires
    c.as_slice-link-items.result.now c.as_slice-link-items.ensures c.loop-link.link-index _ c.loop-link-test.true).0

pub weight-sum-requires-clause-parent : goal.weight-sum-requires-clause-parent
weight-sum-requires-clause-parent c =
    (tree-link c.args.self.now (subst IsGraph c.self.view_is c.self.invariant) c.args.tree.now.root c.args.tree.now.links c.requires
    c.as_slice-link-items.result.now c.as_slice-link-items.ensures c.loop-link.link-index _ c.loop-link-test.true).1

pub overflow_add-sum : goal.overflow_add-sum
overflow_add-sum c =
    let room : c.loop-link.sum + c.weight-sum.result ≤ 1024 =
    tree-room c.args.self.now (subst IsGraph c.self.view_is c.self.invariant) c.args.tree.now.root c.args.tree.now.links c.requires
    c.as_slice-link-items.result.now c.as_slice-link-items.ensures c.loop-link.link-index _ c.loop-link-test.true c.loop-link.sum c.weight-sum.result c.loop-link.invariant c.weight-sum.ensures.weight in
    search rules

pub returns-clause-weight : goal.returns-clause-weight
returns-clause-weight c = sum_is c c.loop-link-test.false

pub returns-clause-bounded : goal.returns-clause-bounded
returns-clause-bounded c =
    subst (λ z. z ≤ needed_of c.args.self.now) (sym (sum_is c c.loop-link-test.false))
    (tree-le c.args.self.now (subst IsGraph c.self.view_is c.self.invariant) c.args.tree.now.root c.args.tree.now.links c.requires)

pub returns-clause-joins : goal.returns-clause-joins
returns-clause-joins c =
    let joins = tree-joins c.args.self.now (subst IsGraph c.self.view_is c.self.invariant) c.args.tree.now.root c.args.tree.now.links c.requires in
    ((λ e. joins.0 (sym (sum_is c c.loop-link-test.false) ∙ e)), (λ j. sum_is c c.loop-link-test.false ∙ joins.1 j))

pub loop-link-preserved : goal.loop-link-preserved
loop-link-preserved c = grind (arith, common_steps)
