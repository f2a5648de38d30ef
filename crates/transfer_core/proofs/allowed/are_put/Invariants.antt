use Rattle.std.proofs.Common.{◌≡◌, ◌<◌, ◌/◌, ℕ}
use Rattle.transfer_core.specs.Plans.{shape_of}
use Rattle.transfer_core.specs.States.{IsPut}
use Rattle.transfer_core.proofs.allowed.are_put.Given as goal

abbrev pub invariant-loop-item : goal.invariant-loop-item
invariant-loop-item g l = (i : ℕ) → i < l.item → i / l.plan.morsel ≡ l.morsel → IsPut (shape_of g.P.Placement.seen l.plan) l.words l.pipe l.puts i
