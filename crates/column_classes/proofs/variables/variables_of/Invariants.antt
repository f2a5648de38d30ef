use Rattle.std.proofs.Common.{map}
use Rattle.column_classes.specs.Labels.{AreByLabel}
use Rattle.column_classes.proofs.variables.variables_of.Given as goal

abbrev pub invariant-places : goal.invariant-places
invariant-places l = AreByLabel l.places l.place (map (λ c. c.items) l.variables.items)
