use Rattle.std.proofs.Common.{◌+◌, ℕ, [], ◌∷◌, length, length-append, ap, ◌∙◌, subst, arith}
use Rattle.std.proofs.lemmas.Grind.{common_steps}
use Rattle.join_graph.specs.declared.tree.Tree.{Tree}
use Rattle.join_graph.specs.SafeSet.{IsSafe}
use Rattle.safe_subjoin.specs.SafeOrder.{IsSafeList, first_of}
use Rattle.safe_subjoin.proofs.OrderFacts.{each-push, order-small, prefix-set, safe-below, same-set}
use Rattle.safe_subjoin.proofs.orders.safe_order.Goals as goal

pub prefix_set-requires-clause-small : goal.prefix_set-requires-clause-small
prefix_set-requires-clause-small c = order-small (length c.args.graph.now) c.args.order.now c.requires.order c.relations-i-end.ensures.graph.few

pub safe_set-requires-clause-set : goal.safe_set-requires-clause-set
safe_set-requires-clause-set c =
    prefix-set (length c.args.graph.now) c.args.order.now c.requires.order c.loop-i.i c.prefix_set.result c.prefix_set.ensures
    (omega (arith, c.loop-i-test.true, c.relations-i-end.ensures.count, c.requires.order.count))

pub returns-in-Err-Unsafe : goal.returns-in-Err-Unsafe
returns-in-Err-Unsafe c = record {
  some = omega arith;
  within = omega (arith, c.loop-i-test.true, c.relations-i-end.ensures.count);
  unsafe =
      let none = rw c.in-Err-Unsafe.field-0-is at c.in-Err-Unsafe.ensures in
      subst (λ set. IsSafe c.args.graph.now set → ⊥) (same-set c.args.order.now (c.loop-i.i + 1) c.prefix_set.result c.prefix_set.ensures) none;
  before = λ k low high. safe-below c.args.graph.now c.args.order.now c.loop-i.lists.items c.loop-i.i c.loop-i.invariant.many c.loop-i.invariant.each k low high;
}

pub loop-i-preserved : goal.loop-i-preserved
loop-i-preserved c =
    let P : ℕ → Tree → Type 0 = λ k tree. IsSafeList c.args.graph.now (first_of c.args.order.now (k + 1)) tree in
    let here : P c.loop-i.i c.in-Ok.tree =
    subst (λ set. IsSafeList c.args.graph.now set c.in-Ok.tree) (same-set c.args.order.now (c.loop-i.i + 1) c.prefix_set.result c.prefix_set.ensures) c.in-Ok.ensures in
    record {
      many = ap length c.in-Ok-push.ensures.items ∙ length-append c.loop-i.lists.items (c.in-Ok.tree ∷ []) ∙ ap (λ z. z + 1) c.loop-i.invariant.many;
      each = each-push P c.loop-i.lists.items c.push.new.self.items c.in-Ok.tree c.loop-i.i c.loop-i.invariant.many c.in-Ok-push.ensures.items c.loop-i.invariant.each here;
    }

pub loop-i-init : goal.loop-i-init
loop-i-init c = grind (arith, common_steps)
