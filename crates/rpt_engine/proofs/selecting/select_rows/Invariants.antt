use Rattle.std.proofs.Common.{◌≡◌, length, map}
use Rattle.std.specs.List.{range_with_len}
use Rattle.join_laws.specs.Selected.{selected_rows}
use Rattle.rpt_engine.proofs.selecting.select_rows.Given as goal

abbrev pub invariant-relations : goal.invariant-relations
invariant-relations l = record {
  rows_are : l.selection.rows.items ≡ map (selected_rows l.bound l.tables) (range_with_len 0 l.relation);
  counts_are : l.selection.counts.items ≡ map (λ r. length (selected_rows l.bound l.tables r)) (range_with_len 0 l.relation);
}
