use Rattle.std.proofs.Common.{arith}
use Rattle.std.proofs.lemmas.Grind.{common_steps}
use Rattle.key_codes.proofs.numbering.Numbering.number.Goals as goal

pub returns-clause-number : goal.returns-clause-number
returns-clause-number g c = grind (arith, common_steps)

pub returns-clause-keeps : goal.returns-clause-keeps
returns-clause-keeps g c = grind (arith, common_steps)

pub returns-clause-met : goal.returns-clause-met
returns-clause-met g c = grind (arith, common_steps)
