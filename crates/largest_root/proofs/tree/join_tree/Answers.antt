use Rattle.std.proofs.Common.{◌∙◌}
use Rattle.largest_root.proofs.ChainFacts.{all-some}
use Rattle.largest_root.proofs.TreeFacts.{for_all, tree-parents, tree-cyclic}
use Rattle.largest_root.proofs.tree.join_tree.Goals as goal

pub grow_one-requires-clause-some : goal.grow_one-requires-clause-some
grow_one-requires-clause-some c = all-some _ _ c.all.ensures.graph.some c.all.ensures.all

pub tree_weight-best-requires : goal.tree_weight-best-requires
tree_weight-best-requires c =
    tree-parents c.args.graph.now c.all.ensures.graph c.args.sizes.now c.all.result c.all.ensures.all c.in-Ok.tree.root c.in-Ok.tree.links c.in-Ok.ensures

pub returns-then-best-needed : goal.returns-then-best-needed
returns-then-best-needed c = record {
  greedy = for_all c.args.graph.now c.all.ensures.graph c.args.sizes.now c.all.result c.all.ensures.all c.in-Ok.tree.root c.in-Ok.tree.links c.in-Ok.ensures;
  joins = c.tree_weight-best.ensures.joins.0 (c.if-best-needed.true ∙ c.needed-needed.ensures);
}

pub returns : goal.returns
returns c =
    tree-cyclic c.args.graph.now c.all.ensures.graph c.args.sizes.now c.all.result c.all.ensures.all c.in-Ok.tree.root c.in-Ok.tree.links c.in-Ok.ensures
    c.tree_weight-best.result c.needed-needed.result c.tree_weight-best.ensures.weight c.tree_weight-best.ensures.bounded c.needed-needed.ensures c.if-best-needed.false
