use Rattle.std.proofs.Common.{arith}
use Rattle.std.proofs.lemmas.Grind.{common_steps}
use Rattle.column_classes.proofs.variables.has_column_of.Goals as goal

pub returns : goal.returns
returns c = grind (arith, common_steps)
