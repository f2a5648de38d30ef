use Rattle.std.proofs.Common.{arith, rules}
use Rattle.std.proofs.lemmas.Grind.{common_steps}
use Rattle.build_calls.proofs.pushes.by_both.Goals as goal

pub push_one-requires-clause-tables : goal.push_one-requires-clause-tables
push_one-requires-clause-tables g c = grind (arith, common_steps)

pub push_one-requires-clause-keys : goal.push_one-requires-clause-keys
push_one-requires-clause-keys g c = search rules depth 1
