use Rattle.column_classes.proofs.LabelFacts.{AreMergedUpTo}
use Rattle.column_classes.proofs.classes.label_columns.Given as goal

abbrev pub invariant-loop-equality : goal.invariant-loop-equality
invariant-loop-equality l = AreMergedUpTo l.widths l.equalities l.equality-index l.places.items
