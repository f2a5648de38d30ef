use Rattle.std.proofs.Common.{arith}
use Rattle.std.proofs.lemmas.Grind.{common_steps}
use Rattle.build_calls.proofs.pushes.put_run.Goals as goal

pub run_of-requires-clause-rows : goal.run_of-requires-clause-rows
run_of-requires-clause-rows g c = grind (arith, common_steps)

pub run_of-requires-clause-lengths : goal.run_of-requires-clause-lengths
run_of-requires-clause-lengths g c = grind (arith, common_steps)
