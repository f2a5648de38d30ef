use Rattle.std.proofs.Common.{◌≡◌, ◌<◌, ◌==◌, ℕ, false, get_or}
use Rattle.transfer_plan.specs.TransferPlan.{no_link}
use Rattle.transfer_plan.proofs.layout.link_of.Given as goal

abbrev pub invariant-loop-place : goal.invariant-loop-place
invariant-loop-place l = (k : ℕ) → k < l.place → ((get_or l.links k no_link).child == l.child) ≡ false
