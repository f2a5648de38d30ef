use Rattle.std.proofs.Common.{arith}
use Rattle.std.proofs.lemmas.Grind.{common_steps}
use Rattle.command_words.proofs.numbers.workers_of.Goals as goal

pub returns-else-are_workers : goal.returns-else-are_workers
returns-else-are_workers c = grind (arith, common_steps)

pub returns-then-are_workers : goal.returns-then-are_workers
returns-then-are_workers c = grind (arith, common_steps)

pub returns-in_err-workers : goal.returns-in_err-workers
returns-in_err-workers c = grind (arith, common_steps)
