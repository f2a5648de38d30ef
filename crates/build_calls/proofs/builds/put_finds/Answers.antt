use Rattle.std.proofs.Common.{arith}
use Rattle.std.proofs.lemmas.Grind.{common_steps}
use Rattle.build_calls.proofs.builds.put_finds.Goals as goal

pub make-requires-clause-range : goal.make-requires-clause-range
make-requires-clause-range g c = grind (arith, common_steps)

pub make-requires-clause-some : goal.make-requires-clause-some
make-requires-clause-some g c = grind (arith, common_steps)

pub make-requires-clause-few : goal.make-requires-clause-few
make-requires-clause-few g c = grind (arith, common_steps)
