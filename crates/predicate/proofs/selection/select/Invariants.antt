use Rattle.std.proofs.Common.{◌≡◌}
use Rattle.predicate.specs.Truth.{is_true}
use Rattle.predicate.proofs.MarkFacts.{marks}
use Rattle.predicate.proofs.selection.select.Given as goal

abbrev pub invariant-loop-row : goal.invariant-loop-row
invariant-loop-row l = l.bits ≡ marks (is_true l.pred) l.table.rows l.row
