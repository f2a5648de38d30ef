use Rattle.std.proofs.Common.{◌≡◌, take, true}
use Rattle.std.specs.List.{list_all}
use Rattle.row_selection.specs.Linked.{has_equal}
use Rattle.row_selection.proofs.linked.is_linked.Given as goal

abbrev pub invariant-loop-first : goal.invariant-loop-first
invariant-loop-first l = list_all (has_equal l.table l.row) (take l.first-index l.pairs) ≡ true
