use Rattle.std.proofs.Common.{◌≡◌, ◌+◌, ◌≤◌, length, All, vec_capacity}
use Rattle.transfer_pass.specs.Rounds.{IsFree, all_parts}
use Rattle.transfer_pass.proofs.hands.split_into.Given as goal

abbrev pub invariant-loop : goal.invariant-loop
invariant-loop g l = record {
  free : IsFree l.board.of l.rest;
  parts : all_parts l.hands.items + l.rest.parts ≡ l.fn.hand.parts;
  enough : l.count + 1 ≤ l.rest.parts + l.counter;
  seen : l.rest.actor.seen ≡ l.fn.hand.actor.seen;
  made : length l.hands.items + 1 ≡ l.counter;
  all_free : All (IsFree l.board.of) l.hands.items;
  all_seen : All (λ h. h.actor.seen ≡ l.fn.hand.actor.seen) l.hands.items;
  room : vec_capacity l.hands ≡ vec_capacity l.fn.hands;
}
