use Rattle.std.proofs.Common.{arith}
use Rattle.std.proofs.lemmas.Grind.{common_steps}
use Rattle.rpt_cli.proofs.deliver.deliver.Goals as goal

pub returns-in-Ok-put_text-clause-delivers : goal.returns-in-Ok-put_text-clause-delivers
returns-in-Ok-put_text-clause-delivers c = grind (arith, common_steps)
