use Rattle.std.proofs.Common.{arith}
use Rattle.std.proofs.lemmas.Grind.{elements}
use Rattle.column_classes.proofs.variables.Variables.columns_of.Goals as goal

pub returns : goal.returns
returns c = grind (arith, elements)
