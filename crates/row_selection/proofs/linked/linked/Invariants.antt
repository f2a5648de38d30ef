use Rattle.std.proofs.Common.{◌≡◌, take}
use Rattle.std.specs.Prelude.{filter}
use Rattle.row_selection.specs.Linked.{is_linked}
use Rattle.row_selection.proofs.linked.linked.Given as goal

abbrev pub invariant-loop-row : goal.invariant-loop-row
invariant-loop-row l = l.kept.items ≡ filter (is_linked l.table l.pairs) (take l.row-index l.rows)
