use Rattle.std.proofs.Common.{◌≡◌, ℕ, ◌<◌, length, get_or}
use Rattle.filter_board.specs.Layout.{offset}
use Rattle.filter_board.proofs.making.starts_of.Given as goal

abbrev pub invariant-loop-count : goal.invariant-loop-count
invariant-loop-count l = record {
  long : length l.starts.items ≡ l.count-index;
  each : (r : ℕ) → r < l.count-index → get_or l.starts.items r 0 ≡ offset l.words r;
  sum : l.next ≡ offset l.words l.count-index;
}
