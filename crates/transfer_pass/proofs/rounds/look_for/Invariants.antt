use Rattle.std.proofs.Common.{◌≡◌}
use Rattle.transfer_pass.specs.Rounds.{KeepsSeen, with_marks}
use Rattle.transfer_pass.proofs.rounds.look_for.Given as goal

abbrev pub invariant-loop : goal.invariant-loop
invariant-loop g l = record {
  same : l.hand ≡ with_marks l.hand.actor.seen l.fn.hand;
  seen : KeepsSeen l.fn.hand l.hand;
}
