use Rattle.std.proofs.Common.{◌∙◌, ap, arith, ◌+◌, ◌%◌}
use Rattle.sample_gen.specs.Draws.{state_after}
use Rattle.sample_gen.specs.Tables.{pair_row}
use Rattle.sample_gen.proofs.DrawFacts.{draw-next, state_after-next}
use Rattle.sample_gen.proofs.RowFacts.{rows_text-all, rows_text-more, rows_text-none}
use Rattle.sample_gen.proofs.tables.put_pairs.Goals as goal

pub loop-id-init : goal.loop-id-init
loop-id-init c =
    let row = pair_row c.args.number c.args.first c.args.bound in
    record { rows = rows_text-none row _; state = c.after-draws.ensures ∙ ap (λ n. state_after c.args.number n) (omega arith) }

pub loop-id-preserved : goal.loop-id-preserved
loop-id-preserved c =
    let number = c.args.number in
    let id = c.loop-id.id in
    let place = c.args.first + id in
    let reached = c.loop-id.invariant.state in
    let other = c.below-other.ensures.draw ∙ ap (λ d. d % c.args.bound) (draw-next number place _ reached) in
    let put = rw other at c.in_ok-put_pair.ensures in
    record {
      rows = rows_text-more (pair_row number c.args.first c.args.bound) _ id _ _ c.loop-id.invariant.rows put;
      state = c.below-other.ensures.state ∙ state_after-next number place _ reached _ (omega arith);
    }

pub returns : goal.returns
returns c =
    let row = pair_row c.args.number c.args.first c.args.bound in
    rows_text-all row _ c.loop-id.id _ _ c.loop-id-test.false c.loop-id.auto.id-end c.loop-id.invariant.rows
