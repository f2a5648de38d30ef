use Rattle.std.proofs.Common.{arith}
use Rattle.std.proofs.lemmas.Grind.{common_steps}
use Rattle.transfer_calls.proofs.parts.check_parts.Goals as goal

pub returns-then-are_edges : goal.returns-then-are_edges
returns-then-are_edges c = grind (arith, common_steps)
