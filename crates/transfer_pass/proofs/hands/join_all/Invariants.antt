use Rattle.std.proofs.Common.{◌≡◌, ◌+◌, ℕ, All, vec_len, vec_capacity}
use Rattle.transfer_pass.specs.Rounds.{IsFree, IsToldFirst, all_parts}
use Rattle.transfer_pass.proofs.hands.join_all.Given as goal

abbrev pub invariant-loop-hand : goal.invariant-loop-hand
invariant-loop-hand g l = record {
  free : IsFree l.board.of l.all;
  parts : l.all.parts + all_parts l.hands.items ≡ all_parts l.fn.hands.items;
  left : All (IsFree l.board.of) l.hands.items;
  told : (n : ℕ) → All (IsToldFirst n) l.fn.hands.items → IsToldFirst n l.all;
  room : vec_capacity l.hands ≡ vec_capacity l.fn.hands;
}

abbrev pub decreases-loop-hand : goal.decreases-loop-hand
decreases-loop-hand g l = vec_len l.hands
