use Rattle.std.proofs.Common.{◌≡◌, ◌∷◌, [], ◌++◌}
use Rattle.std.specs.List.{flat_map}
use Rattle.transfer_plan.proofs.plan.places.Given as goal

abbrev pub invariant-loop-edge : goal.invariant-loop-edge
invariant-loop-edge g l = l.places.items ≡ l.initial.places.items ++ flat_map (λ e. e.child ∷ e.parent ∷ []) l.yielded
