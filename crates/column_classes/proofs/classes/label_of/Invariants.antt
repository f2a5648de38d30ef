use Rattle.std.proofs.Common.{◌≡◌, ◌<◌, ℕ}
use Rattle.column_classes.specs.Labels.{column_at}
use Rattle.column_classes.proofs.classes.label_of.Given as goal

abbrev pub invariant-loop-place : goal.invariant-loop-place
invariant-loop-place l = (k : ℕ) → k < l.place-index → column_at l.places k ≡ l.column → ⊥
