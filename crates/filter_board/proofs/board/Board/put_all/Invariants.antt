use Rattle.std.proofs.Common.{◌≡◌, ◌<◌, ◌≤◌, length, take}
use Rattle.std.specs.Prelude.{slice_range}
use Rattle.filter_board.specs.Runs.{with_all_put}
use Rattle.filter_board.specs.Views.{IsRun, with_actor}
use Rattle.filter_board.proofs.board.Board.put_all.Given as goal

abbrev pub invariant-loop-next : goal.invariant-loop-next
invariant-loop-next g l = record {
  hand : l.hand ≡ with_actor (with_all_put (take l.start l.items) l.port) l.initial.hand;
  run : IsRun g.P.Placement.seen l.self l.pipe l.port (slice_range l.items l.start l.next) l.at l.mask;
  inside : l.at < l.self.of.words;
  start : l.start < l.next;
  end : l.next ≤ length l.items;
}
