use Rattle.std.proofs.Common.{arith}
use Rattle.std.proofs.lemmas.Grind.{common_steps}
use Rattle.build_calls.proofs.pushes.two.Goals as goal

pub push_one-requires-clause-tables : goal.push_one-requires-clause-tables
push_one-requires-clause-tables g c = grind (arith, common_steps)
