use Rattle.std.proofs.Common.{◌<◌, ℕ}
use Rattle.transfer_core.specs.Plans.{IsPipe, shape_of}
use Rattle.transfer_core.proofs.validity.are_pipes.Given as goal

abbrev pub invariant-loop-place : goal.invariant-loop-place
invariant-loop-place g l = (p : ℕ) → p < l.place → IsPipe (shape_of g.P.Placement.seen l.plan) p
