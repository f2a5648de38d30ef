use Rattle.column_classes.specs.Labels.{AreOwnLabels}
use Rattle.column_classes.proofs.classes.label_apart.Given as goal

abbrev pub invariant-relations : goal.invariant-relations
invariant-relations l = AreOwnLabels l.widths l.relation 0 l.places.items
