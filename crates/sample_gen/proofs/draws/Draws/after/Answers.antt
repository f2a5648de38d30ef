use Rattle.std.proofs.Common.{◌*◌, ◌^◌}
use Rattle.std.proofs.Math.Nat.{add-mod-mod}
use Rattle.sample_gen.specs.Draws.{state_after}
use Rattle.sample_gen.proofs.draws.Draws.after.Goals as goal

pub returns : goal.returns
unfolding state_after
returns c = rw (c.from.ensures, c.from-steps.ensures) (add-mod-mod c.args.number (c.args.first * 11400714819323198485) (2 ^ 64))
