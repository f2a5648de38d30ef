use Rattle.std.proofs.Common.{arith}
use Rattle.std.proofs.lemmas.Grind.{common_steps}
use Rattle.command_words.proofs.words.may_have.Goals as goal

pub returns-in-Run : goal.returns-in-Run
returns-in-Run c = grind (arith, common_steps)

pub returns-in-Sample : goal.returns-in-Sample
returns-in-Sample c = grind (arith, common_steps)
