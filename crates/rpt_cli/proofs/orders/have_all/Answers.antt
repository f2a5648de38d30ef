use Rattle.std.proofs.Common.{◌∙◌, sym, arith}
use Rattle.rpt_base.specs.Lists.{has}
use Rattle.rpt_cli.proofs.RangeFacts.{all_below-more, all_below-stop}
use Rattle.rpt_cli.proofs.orders.have_all.Goals as goal

pub returns-then-not-has : goal.returns-then-not-has
returns-then-not-has c =
    all_below-stop (λ r. has r c.args.order.now) c.args.relations c.loop-relation.relation (omega (arith, c.loop-relation-test.true)) (sym c.has.ensures ∙ c.if-not-has.true)

pub loop-relation-preserved : goal.loop-relation-preserved
loop-relation-preserved c = all_below-more (λ r. has r c.args.order.now) c.loop-relation.relation c.loop-relation.invariant (sym c.has.ensures ∙ c.if-not-has.false)
