use Rattle.std.proofs.Common.{◌≡◌, ◌-◌, ℕ}
use Rattle.transfer_core.specs.Actors.{morsels_of}
use Rattle.filter_board.specs.Shares.{IsTold}
use Rattle.filter_board.specs.Views.{job_in}
use Rattle.transfer_pass.specs.Rounds.{IsFree}
use Rattle.transfer_pass.proofs.Drawn.{after_all}
use Rattle.transfer_pass.proofs.morsels.work_pipe.Given as goal

abbrev pub invariant-loop-morsel : goal.invariant-loop-morsel
invariant-loop-morsel g l = record {
  free : IsFree l.board.of l.hand;
  parts : l.hand.parts ≡ l.initial.hand.parts;
  seen : l.hand.actor.seen ≡ l.initial.hand.actor.seen;
  keeps : (p : ℕ) → IsTold l.initial.hand.told p → IsTold l.hand.told p;
}

abbrev pub decreases-loop-morsel : goal.decreases-loop-morsel
decreases-loop-morsel g l = (job_in g.P.Placement.seen l.board).morsels l.pipe - after_all (morsels_of l.pipe l.hand.actor.finished)
