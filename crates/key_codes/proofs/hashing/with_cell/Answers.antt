use Rattle.std.proofs.Common.{arith}
use Rattle.std.proofs.lemmas.Grind.{common_steps}
use Rattle.key_codes.proofs.hashing.with_cell.Goals as goal

pub returns-in-Text : goal.returns-in-Text
returns-in-Text c = grind (arith, common_steps)
