use Rattle.std.proofs.Common.{arith}
use Rattle.std.proofs.lemmas.Grind.{common_steps}
use Rattle.sample_gen.proofs.making.put_table.Goals as goal

pub returns : goal.returns
returns c = grind (arith, common_steps)
