use Rattle.column_classes.specs.Labels.{AreOwnLabels}
use Rattle.column_classes.proofs.classes.label_relation.Given as goal

abbrev pub invariant-columns : goal.invariant-columns
invariant-columns l = AreOwnLabels l.widths l.relation l.column l.places.items
