use Rattle.std.proofs.Common.{◌∙◌, ap, arith, refl, ◌+◌, ◌*◌, ◌%◌}
use Rattle.sample_gen.specs.Draws.{state_after}
use Rattle.sample_gen.specs.Tables.{item_row}
use Rattle.sample_gen.proofs.DrawFacts.{draw-next, state_after-next}
use Rattle.sample_gen.proofs.RowFacts.{rows_text-all, rows_text-more, rows_text-none}
use Rattle.sample_gen.proofs.tables.put_items.Goals as goal

pub loop-id-init : goal.loop-id-init
loop-id-init c =
    let row = item_row c.args.number c.args.first in
    record { rows = rows_text-none row _; state = c.after-draws.ensures ∙ ap (λ n. state_after c.args.number n) (omega arith) }

pub loop-id-preserved : goal.loop-id-preserved
loop-id-preserved c =
    let number = c.args.number in
    let id = c.loop-id.id in
    let place = c.args.first + 2 * id in
    let reached = c.loop-id.invariant.state in
    let between = c.below-order.ensures.state ∙ state_after-next number place _ reached _ refl in
    let order = c.below-order.ensures.draw ∙ ap (λ d. d % 25000) (draw-next number place _ reached) in
    let quantity = c.below-quantity.ensures.draw ∙ ap (λ d. d % 50) (draw-next number (place + 1) _ between) in
    let put = rw (order, quantity) at c.in_ok-put_item.ensures in
    record {
      rows = rows_text-more (item_row number c.args.first) _ id _ _ c.loop-id.invariant.rows put;
      state = c.below-quantity.ensures.state ∙ state_after-next number (place + 1) _ between _ (omega arith);
    }

pub returns : goal.returns
returns c =
    let row = item_row c.args.number c.args.first in
    rows_text-all row _ c.loop-id.id _ _ c.loop-id-test.false c.loop-id.auto.id-end c.loop-id.invariant.rows
