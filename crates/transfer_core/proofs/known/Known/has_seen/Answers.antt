use Rattle.std.proofs.Common.{arith}
use Rattle.std.proofs.lemmas.Grind.{common_steps}
use Rattle.transfer_core.proofs.known.Known.has_seen.Goals as goal

pub returns-else-pipe-seen : goal.returns-else-pipe-seen
returns-else-pipe-seen c = grind (arith, common_steps)
