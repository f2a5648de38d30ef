use Rattle.std.proofs.Common.{◌≡◌, ℕ, ◌<◌, true}
use Rattle.rpt_base.specs.Lists.{has}
use Rattle.transfer_calls.proofs.parts.has_all.Given as goal

abbrev pub invariant-loop-relation : goal.invariant-loop-relation
invariant-loop-relation l = (r : ℕ) → r < l.relation → has r l.listed ≡ true
