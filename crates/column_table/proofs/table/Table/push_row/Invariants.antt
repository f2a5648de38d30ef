use Rattle.std.proofs.Common.{◌≡◌, take}
use Rattle.column_table.proofs.table.Table.push_row.Given as goal

abbrev pub invariant-loop-value : goal.invariant-loop-value
invariant-loop-value l = l.self-inside.builder ≡ record { kinds = l.fn.self.kinds; rows = l.fn.self.rows; started = take l.value-index l.row }
