use Rattle.std.proofs.Common.{arith}
use Rattle.std.proofs.lemmas.Grind.{elements}
use Rattle.bound_query.proofs.bound.Bound.table_of.Goals as goal

pub returns-clause-table : goal.returns-clause-table
returns-clause-table c = grind (arith, elements)
