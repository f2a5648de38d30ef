use Rattle.column_classes.specs.Labels.{ArePairsBefore, column_at}
use Rattle.column_classes.proofs.variables.add_pairs.Given as goal

abbrev pub invariant-later : goal.invariant-later
invariant-later l = ArePairsBefore l.places (column_at l.places l.i).relation l.i l.j l.pairs.items
