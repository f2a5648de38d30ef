use Rattle.std.proofs.Common.{◌≡◌, ◌+◌, ◌-◌, ◌≤◌, [], vec_capacity}
use Rattle.std.specs.Prelude.{replicate}
use Rattle.filter_board.specs.Shares.{fresh, parts_of}
use Rattle.filter_board.specs.Views.{hand_of}
use Rattle.filter_board.proofs.board.Board.deal.Given as goal

abbrev pub invariant-loop : goal.invariant-loop
invariant-loop g l = record {
  own : l.seat.table_id ≡ l.self.of;
  left : l.seat.me ≡ (fresh (parts_of (l.self.workers + 1 - l.counter)), []);
  dealt : l.hands.items ≡ replicate (l.counter - 1) (hand_of l.self.of (fresh (parts_of 1)) 0);
  room : l.self.workers ≤ vec_capacity l.hands;
}
