use Rattle.std.proofs.Common.{◌≡◌, true, take}
use Rattle.std.specs.List.{list_all}
use Rattle.predicate.specs.Truth.{is_typed}
use Rattle.predicate.proofs.typing.+is_typed.Given as goal

abbrev pub invariant-are_typed-loop-pred : goal.invariant-are_typed-loop-pred
invariant-are_typed-loop-pred l = list_all (is_typed l.table.kinds) (take l.pred-index l.preds) ≡ true
