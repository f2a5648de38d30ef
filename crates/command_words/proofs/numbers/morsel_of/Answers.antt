use Rattle.std.proofs.Common.{arith}
use Rattle.std.proofs.lemmas.Grind.{common_steps}
use Rattle.command_words.proofs.numbers.morsel_of.Goals as goal

pub returns-else-is_morsel : goal.returns-else-is_morsel
returns-else-is_morsel c = grind (arith, common_steps)

pub returns-then-is_morsel : goal.returns-then-is_morsel
returns-then-is_morsel c = grind (arith, common_steps)

pub returns-in_err-size : goal.returns-in_err-size
returns-in_err-size c = grind (arith, common_steps)
