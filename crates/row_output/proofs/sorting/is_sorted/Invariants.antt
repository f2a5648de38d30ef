use Rattle.std.proofs.Common.{◌≡◌, ℕ, ◌+◌, ◌<◌, false, List, get_or}
use Rattle.std.specs.Cmp.Lexicographic.{slice_cmp}
use Rattle.std.specs.Ordering.{is_lt, nat_cmp}
use Rattle.row_output.proofs.sorting.is_sorted.Given as goal

abbrev pub invariant-loop-row : goal.invariant-loop-row
invariant-loop-row l = (k : ℕ) (d : List ℕ) → k + 1 < l.row → is_lt (slice_cmp nat_cmp (get_or l.answer.rows (k + 1) d) (get_or l.answer.rows k d)) ≡ false
