use Rattle.std.proofs.Common.{arith}
use Rattle.std.proofs.lemmas.Grind.{common_steps}
use Rattle.transfer_core.proofs.taking.take.Goals as goal

pub finish-requires-clause-allowed : goal.finish-requires-clause-allowed
finish-requires-clause-allowed c = grind (arith, common_steps)
