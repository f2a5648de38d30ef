use Rattle.std.proofs.Common.{arith}
use Rattle.std.proofs.lemmas.Grind.{common_steps}
use Rattle.build_calls.proofs.pushes.run_of.Goals as goal

pub two-requires-in-text-len2-clause-lengths : goal.two-requires-in-text-len2-clause-lengths
two-requires-in-text-len2-clause-lengths g c = grind (arith, common_steps)

pub by_both-requires-clause-lengths : goal.by_both-requires-clause-lengths
by_both-requires-clause-lengths g c = grind (arith, common_steps)

pub two-requires-in-text-len2-clause-columns : goal.two-requires-in-text-len2-clause-columns
two-requires-in-text-len2-clause-columns g c = grind (arith, common_steps)

pub two-requires-clause-lengths : goal.two-requires-clause-lengths
two-requires-clause-lengths g c = grind (arith, common_steps)

pub by_both-requires-clause-rows : goal.by_both-requires-clause-rows
by_both-requires-clause-rows g c = grind (arith, common_steps)

pub push_one-requires-clause-rows : goal.push_one-requires-clause-rows
push_one-requires-clause-rows g c = grind (arith, common_steps)

pub two-requires-in-text-len2-clause-rows : goal.two-requires-in-text-len2-clause-rows
two-requires-in-text-len2-clause-rows g c = grind (arith, common_steps)

pub two-requires-clause-rows : goal.two-requires-clause-rows
two-requires-clause-rows g c = grind (arith, common_steps)

pub push_one-requires-clause-tables : goal.push_one-requires-clause-tables
push_one-requires-clause-tables g c = grind (arith, common_steps)

pub two-requires-in-text-len2-clause-key : goal.two-requires-in-text-len2-clause-key
two-requires-in-text-len2-clause-key g c = grind (arith, common_steps)

pub push_one-requires-clause-builds : goal.push_one-requires-clause-builds
push_one-requires-clause-builds g c = grind (arith, common_steps)
