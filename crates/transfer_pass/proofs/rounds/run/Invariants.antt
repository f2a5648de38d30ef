use Rattle.std.proofs.Common.{◌≡◌, ◌-◌, ◌≤◌, [], length, vec_capacity}
use Rattle.filter_board.specs.Shares.{parts_of}
use Rattle.transfer_pass.specs.Rounds.{IsFree, IsToldFirst}
use Rattle.transfer_pass.proofs.rounds.run.Given as goal

abbrev pub invariant-rounds : goal.invariant-rounds
invariant-rounds g l = record {
  free : IsFree l.board.of l.all;
  parts : l.all.parts ≡ parts_of l.board.workers;
  told : IsToldFirst l.round l.all;
  rounds : l.round ≤ length l.board.plan.pipes;
  empty : l.hands.items ≡ [];
  room : l.count ≤ vec_capacity l.hands;
}

abbrev pub decreases-rounds : goal.decreases-rounds
decreases-rounds g l = length l.board.plan.pipes - l.round
