use Rattle.std.proofs.Common.{arith}
use Rattle.std.proofs.lemmas.Grind.{common_steps}
use Rattle.transfer_pass.proofs.rounds.work_if_ready.Goals as goal

pub work_pipe-requires-clause-seen : goal.work_pipe-requires-clause-seen
work_pipe-requires-clause-seen c = grind (arith, common_steps)
