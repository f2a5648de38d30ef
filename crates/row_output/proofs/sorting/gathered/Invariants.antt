use Rattle.std.proofs.Common.{◌≡◌, map, take}
use Rattle.row_output.proofs.sorting.gathered.Given as goal

abbrev pub invariant-loop-row : goal.invariant-loop-row
invariant-loop-row l = l.gathered ≡ record { width = l.width; rows = map (λ row. row.2.now) (take l.row-index l.rows) }
