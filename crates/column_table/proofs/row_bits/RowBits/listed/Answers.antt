use Rattle.std.proofs.Common.{◌≡◌, ◌+◌, ◌<◌, arith, rules, length, true}
use Rattle.std.specs.Result.{is_ok}
use Rattle.column_table.proofs.BitFacts.{IsNextRow, listed-first, listed-next}
use Rattle.column_table.proofs.row_bits.RowBits.listed.Goals as goal

pub loop-row-init : goal.loop-row-init
loop-row-init c =
    let next : IsNextRow c.args.self.now 0 c.next_from-row.result =
    record { bounds = c.next_from-row.ensures.bounds; passed = c.next_from-row.ensures.passed; found = c.next_from-row.ensures.found } in
    listed-first c.args.self.now c.new-rows.result.items c.next_from-row.result c.new-rows.ensures.items next

pub loop-row-preserved : goal.loop-row-preserved
loop-row-preserved c =
    let good : is_ok c.push.result ≡ true = search rules in
    let next : IsNextRow c.args.self.now (c.loop-row.row + 1) c.next_from-row-in-loop-row.result =
    record { bounds = c.next_from-row-in-loop-row.ensures.bounds; passed = c.next_from-row-in-loop-row.ensures.passed; found = c.next_from-row-in-loop-row.ensures.found } in
    let lt : c.loop-row.row < length c.args.self.now = omega (arith, c.rows.ensures) in
    rw (rw good at c.push.ensures.items) (listed-next c.args.self.now c.loop-row.rows.items c.loop-row.row c.next_from-row-in-loop-row.result c.loop-row.invariant lt next)
