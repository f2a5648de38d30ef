use Rattle.std.proofs.Common.{◌≡◌, [], true, false, take, slice_index_or}
use Rattle.std.specs.List.{list_all, list_any}
use Rattle.predicate.specs.Truth.{is_true}
use Rattle.predicate.proofs.truth.+holds.Given as goal

abbrev pub invariant-all_hold-loop-pred : goal.invariant-all_hold-loop-pred
invariant-all_hold-loop-pred l = list_all (λ p. is_true p (slice_index_or l.table.rows l.row [])) (take l.pred-index l.preds) ≡ true

abbrev pub invariant-some_hold-loop-pred : goal.invariant-some_hold-loop-pred
invariant-some_hold-loop-pred l = list_any (λ p. is_true p (slice_index_or l.table.rows l.row [])) (take l.pred-index l.preds) ≡ false
