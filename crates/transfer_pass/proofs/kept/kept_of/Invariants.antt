use Rattle.std.proofs.Common.{◌≡◌, take}
use Rattle.transfer_plan.specs.Kept.{kept_among}
use Rattle.transfer_pass.proofs.kept.kept_of.Given as goal

abbrev pub invariant-loop-pipe : goal.invariant-loop-pipe
invariant-loop-pipe l = l.kept ≡ kept_among l.places (take l.pipe-index l.pipes)
