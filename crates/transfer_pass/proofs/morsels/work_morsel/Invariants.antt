use Rattle.std.proofs.Common.{◌≡◌, ◌-◌, ◌<◌, ◌≤◌, ◌/◌, ℕ, true}
use Rattle.transfer_core.specs.Actors.{is_listed}
use Rattle.transfer_core.specs.Job.{IsPassing}
use Rattle.filter_board.specs.Views.{job_in}
use Rattle.transfer_pass.specs.Work.{with_puts}
use Rattle.transfer_pass.proofs.morsels.work_morsel.Given as goal

abbrev pub invariant-chunks : goal.invariant-chunks
invariant-chunks g l = record {
  start : l.start ≤ l.next;
  end : l.next ≤ l.end;
  same : l.hand ≡ with_puts l.hand.actor.puts l.initial.hand;
  listed : (i q : ℕ) → IsPassing (job_in g.P.Placement.seen l.board) l.pipe i q → i / l.board.plan.morsel ≡ l.morsel → i < l.next
      → is_listed i q l.hand.actor.puts ≡ true;
}

abbrev pub decreases-chunks : goal.decreases-chunks
decreases-chunks g l = l.end - l.next
