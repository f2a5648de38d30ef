use Rattle.std.proofs.Common.{◌≡◌, ℕ, ◌<◌, ◌≤◌, length, get_or, map, []}
use Rattle.transfer_core.specs.Plans.{shape_of}
use Rattle.transfer_core.specs.Sealed.{sealed}
use Rattle.transfer_core.specs.Words.{region_words}
use Rattle.filter_board.proofs.board.Board.close.Given as goal

abbrev pub invariant-loop-region : goal.invariant-loop-region
invariant-loop-region g l = let s = shape_of g.P.Placement.seen l.plan in record {
  count : length l.rooms.items ≡ length l.plan.words;
  copied : (r : ℕ) → r < l.region → get_or (map (λ w. w.items) l.rooms.items) r [] ≡ region_words s (sealed s) r;
  left : (r : ℕ) → l.region ≤ r → r < length l.plan.words → length (get_or (map (λ w. w.items) l.rooms.items) r []) ≡ get_or l.plan.words r 0;
}
