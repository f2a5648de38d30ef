use Rattle.std.proofs.Common.{[], ◌∷◌}
use Rattle.binder.proofs.GatherFacts.{IsGatheredByNumber}
use Rattle.binder.specs.Binding.{column_output}
use Rattle.binder.proofs.shown.add_relation.Given as goal

abbrev pub invariant-loop-place : goal.invariant-loop-place
invariant-loop-place l = IsGatheredByNumber (λ c. column_output l.relation c ∷ []) l.columns l.fn.shown.items l.shown.items l.place
