use Rattle.std.proofs.Common.{map}
use Rattle.column_classes.proofs.SetFacts.{AreVariablesBelow}
use Rattle.column_classes.proofs.variables.set_of.Given as goal

abbrev pub invariant-variables : goal.invariant-variables
invariant-variables l = AreVariablesBelow (map (λ c. c.items) l.variables) l.relation l.variable l.set.items
