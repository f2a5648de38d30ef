use Rattle.std.proofs.Common.{◌+◌, ℕ, Option, [], ◌∷◌, length, length-append, ap, ◌∙◌, subst, arith}
use Rattle.join_graph.specs.declared.tree.Tree.{Tree}
use Rattle.safe_subjoin.specs.SafeOrder.{IsListOf, first_of}
use Rattle.safe_subjoin.proofs.OrderFacts.{each-push, order-small, prefix-set, same-set}
use Rattle.safe_subjoin.proofs.orders.safe_lists.Goals as goal

pub prefix_set-requires-clause-small : goal.prefix_set-requires-clause-small
prefix_set-requires-clause-small c = order-small (length c.args.graph.now) c.args.order.now c.requires.order c.relations-i-end.ensures.graph.few

pub safe_list-requires-clause-set : goal.safe_list-requires-clause-set
safe_list-requires-clause-set c =
    prefix-set (length c.args.graph.now) c.args.order.now c.requires.order c.loop-i.i c.prefix_set.result c.prefix_set.ensures
    (omega (arith, c.loop-i-test.true, c.relations-i-end.ensures.count, c.requires.order.count))

pub loop-i-preserved : goal.loop-i-preserved
loop-i-preserved c =
    let P : ℕ → Option Tree → Type 0 = λ k list. IsListOf c.args.graph.now (first_of c.args.order.now (k + 1)) list in
    let here : P c.loop-i.i c.in_ok-list.list =
    subst (λ set. IsListOf c.args.graph.now set c.in_ok-list.list) (same-set c.args.order.now (c.loop-i.i + 1) c.prefix_set.result c.prefix_set.ensures) c.in_ok-list.ensures in
    record {
      many = ap length c.in-Ok.ensures.items ∙ length-append c.loop-i.lists.items (c.in_ok-list.list ∷ []) ∙ ap (λ z. z + 1) c.loop-i.invariant.many;
      each = each-push P c.loop-i.lists.items c.push.new.self.items c.in_ok-list.list c.loop-i.i c.loop-i.invariant.many c.in-Ok.ensures.items c.loop-i.invariant.each here;
    }
