use Rattle.column_classes.specs.Labels.{AreOfLabel}
use Rattle.column_classes.proofs.variables.columns_with.Given as goal

abbrev pub invariant-places : goal.invariant-places
invariant-places l = AreOfLabel l.places l.label l.i l.columns.items
