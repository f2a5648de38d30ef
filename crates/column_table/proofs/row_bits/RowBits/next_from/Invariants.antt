use Rattle.std.proofs.Common.{◌-◌}
use Rattle.column_table.proofs.BitFacts.{NoneSet}
use Rattle.column_table.proofs.row_bits.RowBits.next_from.Given as goal

abbrev pub invariant-loop-row : goal.invariant-loop-row
invariant-loop-row l = NoneSet l.self-inside.words.items l.from l.row

abbrev pub decreases-loop-row : goal.decreases-loop-row
decreases-loop-row l = l.rows - l.row
