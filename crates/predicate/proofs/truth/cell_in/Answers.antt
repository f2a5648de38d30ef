use Rattle.std.proofs.Common.{arith}
use Rattle.std.proofs.lemmas.Grind.{elements}
use Rattle.predicate.proofs.truth.cell_in.Goals as goal

pub returns-in-Column-clause-value : goal.returns-in-Column-clause-value
returns-in-Column-clause-value c = grind (arith, elements)
