use Rattle.std.proofs.Common.{◌≡◌, arith, below_more, get_or}
use Rattle.std.specs.List.{Contains}
use Rattle.build_calls.proofs.orders.has_all.Goals as goal

pub loop-relation-preserved : goal.loop-relation-preserved
loop-relation-preserved c =
    let order = c.args.order.now in
    let r = c.loop-relation.relation-counter in
    let found = c.if-not-contains.ensures.cases in
    let at = found.2 r in
    let here : get_or order found.0 r ≡ r = grind arith in
    below_more (λ k. Contains order k) r c.loop-relation.invariant (found.0, found.1, here)
