use Rattle.std.proofs.Common.{◌≡◌, All, length, map, take}
use Rattle.row_output.specs.Heads.{IsHead}
use Rattle.row_output.proofs.sorting.rows_of.Given as goal

abbrev pub invariant-loop-row : goal.invariant-loop-row
invariant-loop-row l = record {
  are : map (λ row. row.2.now) l.rows.items ≡ take l.row l.answer.rows;
  heads : All (λ row. IsHead row.0 row.1 row.2.now) l.rows.items;
  wide : All (λ row. length row.2.now ≡ l.answer.width) l.rows.items;
}
