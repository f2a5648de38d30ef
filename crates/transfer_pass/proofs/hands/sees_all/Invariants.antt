use Rattle.std.proofs.Common.{◌≡◌, ◌<◌, ℕ, true}
use Rattle.transfer_core.specs.Actors.{HasSeen}
use Rattle.filter_board.specs.Shares.{IsTold}
use Rattle.transfer_pass.specs.Rounds.{HasSeenFirst, IsToldFirst, with_marks}
use Rattle.transfer_pass.proofs.hands.sees_all.Given as goal

abbrev pub invariant-loop-pipe : goal.invariant-loop-pipe
invariant-loop-pipe g l = record {
  same : l.hand ≡ with_marks l.hand.actor.seen l.fn.hand;
  seen : (p : ℕ) → p < l.pipe → IsTold l.fn.hand.told p → HasSeen l.hand.actor p;
  all : l.all ≡ true → HasSeenFirst l.pipe l.hand;
  told : IsToldFirst l.pipe l.fn.hand → l.all ≡ true;
}
