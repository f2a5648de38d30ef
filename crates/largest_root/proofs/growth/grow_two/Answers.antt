use Rattle.std.proofs.Common.{[], ◌∷◌, slice_index, subst, sym, arith}
use Rattle.std.proofs.lemmas.Grind.{common_steps}
use Rattle.join_graph.specs.Weights.{weight_of}
use Rattle.join_graph.specs.JoinList.{set_of}
use Rattle.largest_root.specs.Greedy.{IsGreedyList}
use Rattle.largest_root.proofs.ChainFacts.{first-known, two-sets}
use Rattle.largest_root.proofs.growth.grow_two.Goals as goal

pub grow_set-requires-2-clause-known : goal.grow_set-requires-2-clause-known
grow_set-requires-2-clause-known c = first-known (weight_of c.args.graph.now) (slice_index c.args.sizes.now) (set_of c.args.first) c.root_of-root.result c.new-links.result.items c.grow_set.new.links.items c.new-links.ensures.items c.root_of-root.ensures c.in_ok-grow_set.ensures _ c.requires.first.within

pub returns : goal.returns
returns c =
    let items = c.from_vec.ensures in
    let list = two-sets (weight_of c.args.graph.now) (slice_index c.args.sizes.now) (set_of c.args.first) c.root_of-root.result c.new-links.result.items c.grow_set.new.links.items c.new-links.ensures.items c.root_of-root.ensures c.in_ok-grow_set.ensures
    (set_of c.args.then) c.grow_set-2.new.links.items c.in_ok-grow_set-2.ensures in
    subst (λ z. IsGreedyList (weight_of c.args.graph.now) (slice_index c.args.sizes.now) (set_of c.args.first) (set_of c.args.then ∷ []) c.root_of-root.result z) (sym items) list

pub grow_set-requires-2-clause-root : goal.grow_set-requires-2-clause-root
grow_set-requires-2-clause-root c = grind (arith, common_steps)

pub grow_set-requires-clause-known : goal.grow_set-requires-clause-known
grow_set-requires-clause-known c = grind (arith, common_steps)

pub grow_set-requires-clause-root : goal.grow_set-requires-clause-root
grow_set-requires-clause-root c = grind (arith, common_steps)
