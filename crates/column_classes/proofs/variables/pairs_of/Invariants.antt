use Rattle.column_classes.specs.Labels.{ArePairsBefore}
use Rattle.column_classes.proofs.variables.pairs_of.Given as goal

abbrev pub invariant-places : goal.invariant-places
invariant-places l = ArePairsBefore l.places l.relation l.i 0 l.pairs.items
