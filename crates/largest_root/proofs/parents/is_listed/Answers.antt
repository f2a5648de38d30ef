use Rattle.std.proofs.Common.{sym, ◌∙◌, eq-eqb}
use Rattle.largest_root.proofs.ListedFacts.{listed-root, listed-other}
use Rattle.largest_root.proofs.parents.is_listed.Goals as goal

pub returns-then-relation-root : goal.returns-then-relation-root
returns-then-relation-root c = eq-eqb _ _ c.if-relation-root.true ∙ sym (listed-root c.args.relation c.args.root c.args.links.now c.if-relation-root.true)

pub returns-else-relation-root : goal.returns-else-relation-root
returns-else-relation-root c = c.is_child.ensures ∙ listed-other c.args.relation c.args.root c.args.links.now c.if-relation-root.false
