use Rattle.std.proofs.Common.{◌-◌, length}
use Rattle.column_table.proofs.BitFacts.{ListedTo}
use Rattle.column_table.proofs.row_bits.RowBits.listed.Given as goal

abbrev pub invariant-loop-row : goal.invariant-loop-row
invariant-loop-row l = ListedTo l.self l.rows.items l.row

abbrev pub decreases-loop-row : goal.decreases-loop-row
decreases-loop-row l = length l.self - l.row
