use Rattle.std.proofs.Common.{◌≡◌, map}
use Rattle.std.specs.List.{range_with_len}
use Rattle.binder.specs.Binding.{condition_of}
use Rattle.binder.proofs.translate.conditions.Given as goal

abbrev pub invariant-loop-relation : goal.invariant-loop-relation
invariant-loop-relation l = l.found.items ≡ map (condition_of l.scope (map (λ c. c.now) l.conjuncts)) (range_with_len 0 l.relation)
