use Rattle.std.proofs.Common.{arith}
use Rattle.sample_gen.specs.Draws.{draw, state_after}
use Rattle.sample_gen.proofs.draws.Draws.draw.Goals as goal

pub returns-clause-draw : goal.returns-clause-draw
unfolding draw state_after
returns-clause-draw c = c.mix.ensures

pub returns-clause-state : goal.returns-clause-state
unfolding state_after
returns-clause-state c = omega arith
