use Rattle.std.proofs.Common.{◌∙◌}
use Rattle.join_graph.specs.JoinList.{set_of}
use Rattle.safe_subjoin.proofs.SetFacts.{set-parents, set-safe, set-unsafe}
use Rattle.safe_subjoin.proofs.sets.safe_tree.Goals as goal

pub tree_weight-requires : goal.tree_weight-requires
tree_weight-requires c =
    set-parents c.args.graph.now c.requires.graph c.args.sizes.now c.requires.zeros (set_of c.args.set) c.requires.set.within c.args.all c.requires.all
    c.in-Ok.tree c.in-Ok.ensures.greedy

pub returns-then-tree_weight-needed : goal.returns-then-tree_weight-needed
returns-then-tree_weight-needed c =
    set-safe c.args.graph.now c.requires.graph c.args.sizes.now c.requires.zeros (set_of c.args.set) c.requires.set.within c.args.all c.requires.all
    c.in-Ok.tree c.in-Ok.ensures.greedy (c.tree_weight.ensures.joins.0 (c.if-tree_weight-needed.true ∙ c.needed.ensures))

pub returns : goal.returns
returns c =
    set-unsafe c.args.graph.now c.requires.graph c.args.sizes.now c.requires.zeros (set_of c.args.set) c.requires.set.within c.args.all c.requires.all
    c.in-Ok.tree c.in-Ok.ensures.greedy c.tree_weight.result c.needed.result c.tree_weight.ensures.weight c.needed.ensures c.if-tree_weight-needed.false
