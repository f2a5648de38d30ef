use Rattle.std.proofs.Common.{arith}
use Rattle.std.proofs.lemmas.Grind.{common_steps}
use Rattle.transfer_calls.proofs.plans.places_by.Goals as goal

pub new-requires-clause-below : goal.new-requires-clause-below
new-requires-clause-below c = grind (arith, common_steps)
