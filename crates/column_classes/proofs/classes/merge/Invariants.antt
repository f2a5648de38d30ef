use Rattle.std.proofs.Common.{◌≡◌, ◌++◌, drop, map, take}
use Rattle.column_classes.specs.Labels.{merged}
use Rattle.column_classes.proofs.classes.merge.Given as goal

abbrev pub invariant-loop-place : goal.invariant-loop-place
invariant-loop-place l = (l.places ≡ map (merged l.left l.right) (take l.place-index l.initial.places) ++ drop l.place-index l.initial.places)
