use Rattle.std.proofs.Common.{◌≡◌, ◌<◌, ℕ, get_or}
use Rattle.column_classes.specs.Variables.{column_of}
use Rattle.column_classes.proofs.variables.has_two_relations.Given as goal

abbrev pub invariant-loop-column : goal.invariant-loop-column
invariant-loop-column l = (k : ℕ) → k < l.column-index → (get_or l.columns k (column_of 0 0)).relation ≡ (get_or l.columns 0 (column_of 0 0)).relation
