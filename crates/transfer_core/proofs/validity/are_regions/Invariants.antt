use Rattle.std.proofs.Common.{◌<◌, ℕ}
use Rattle.transfer_core.specs.Plans.{IsRegion, shape_of}
use Rattle.transfer_core.proofs.validity.are_regions.Given as goal

abbrev pub invariant-loop-region : goal.invariant-loop-region
invariant-loop-region g l = (r : ℕ) → r < l.region → IsRegion (shape_of g.P.Placement.seen l.plan) r
