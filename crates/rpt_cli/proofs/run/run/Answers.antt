use Rattle.std.proofs.Common.{arith, rules}
use Rattle.std.proofs.lemmas.Grind.{common_steps}
use Rattle.rpt_cli.proofs.run.run.Goals as goal

pub answer_text-text-requires-clause-answer : goal.answer_text-text-requires-clause-answer
answer_text-text-requires-clause-answer c = grind (arith, common_steps)

pub returns-clause-gives : goal.returns-clause-gives
returns-clause-gives c = search rules depth 1
