use Rattle.std.proofs.Common.{◌≡◌, ◌<◌, ℕ}
use Rattle.transfer_core.specs.Sound.{HasSeenReads}
use Rattle.filter_board.specs.Shares.{IsTold}
use Rattle.filter_board.specs.Views.{job_in}
use Rattle.transfer_pass.specs.Rounds.{IsFree, KeepsSeen}
use Rattle.transfer_pass.proofs.rounds.work_round.Given as goal

abbrev pub invariant-loop-pipe : goal.invariant-loop-pipe
invariant-loop-pipe g l = record {
  free : IsFree l.board.of l.hand;
  parts : l.hand.parts ≡ l.fn.hand.parts;
  seen : KeepsSeen l.fn.hand l.hand;
  told : (p : ℕ) → p < l.pipe → HasSeenReads (job_in g.P.Placement.seen l.board) p l.fn.hand.actor → IsTold l.hand.told p;
}
