use Rattle.std.proofs.Common.{length, subst, sym, List, arith}
use Rattle.std.proofs.lemmas.Grind.{common_steps}
use Rattle.join_graph.specs.declared.tree.Link.{Link}
use Rattle.join_graph.proofs.ListFacts.{AreWithin, parents-within}
use Rattle.plan_report.proofs.trees.put_list.Goals as goal

pub put_link-requires-clause-child : goal.put_link-requires-clause-child
put_link-requires-clause-child c =
    let n = length c.args.bound.now.query.table_of in
    let within = subst (λ (ls : List Link). AreWithin n ls) (sym c.as_slice-link-items.ensures) (parents-within n c.args.tree.now.root c.args.tree.now.links c.requires) in
    (within c.loop-link.link-index _ c.loop-link-test.true).0

pub put_link-requires-clause-parent : goal.put_link-requires-clause-parent
put_link-requires-clause-parent c =
    let n = length c.args.bound.now.query.table_of in
    let within = subst (λ (ls : List Link). AreWithin n ls) (sym c.as_slice-link-items.ensures) (parents-within n c.args.tree.now.root c.args.tree.now.links c.requires) in
    (within c.loop-link.link-index _ c.loop-link-test.true).1

pub loop-link-preserved : goal.loop-link-preserved
loop-link-preserved c = grind (arith, common_steps)

pub returns : goal.returns
returns c = grind (arith, common_steps)
