use Rattle.std.proofs.Common.{◌∙◌, ap, sym, subst, List, length, ℕ, arith}
use Rattle.std.proofs.lemmas.Grind.{common_steps}
use Rattle.rpt_base.specs.Orders.{IsOrder, is_order}
use Rattle.rpt_base.proofs.OrderFacts.{is_order-IsOrder}
use Rattle.rpt_cli.proofs.orders.order_of.Goals as goal

pub returns-clause-order : goal.returns-clause-order
returns-clause-order c =
    let sets = c.args.bound.now.known.sets in
    let order = c.in_ok-order.order.items in
    let items = c.deref.ensures.value in
    let holds = ap (λ (n : ℕ). is_order n c.deref.result.now) (sym (c.relations.ensures.count ∙ sym c.relations.ensures.sets)) ∙ sym c.is_order.ensures ∙ c.if-not-is_order.false in
    subst (λ (o : List ℕ). IsOrder (length sets) o) (items ∙ sym c.from_vec.ensures) (is_order-IsOrder (length sets) c.deref.result.now holds)

pub returns-then-not-is_order-clause-says : goal.returns-then-not-is_order-clause-says
returns-then-not-is_order-clause-says c = grind (arith, common_steps)
