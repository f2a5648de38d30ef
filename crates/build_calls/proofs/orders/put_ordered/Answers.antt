use Rattle.std.proofs.Common.{arith}
use Rattle.std.proofs.lemmas.Grind.{common_steps}
use Rattle.build_calls.proofs.orders.put_ordered.Goals as goal

pub ordered-requires-after_bounds : goal.ordered-requires-after_bounds
ordered-requires-after_bounds g c = grind (arith, common_steps)
