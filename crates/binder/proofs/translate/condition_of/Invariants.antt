use Rattle.std.proofs.Common.{[], ◌∷◌}
use Rattle.binder.specs.Binding.{conditions_in}
use Rattle.binder.proofs.GatherFacts.{IsGathered}
use Rattle.binder.proofs.translate.condition_of.Given as goal

abbrev pub invariant-loop-conjunct : goal.invariant-loop-conjunct
invariant-loop-conjunct l = IsGathered (λ c. conditions_in l.scope l.relation (c.now ∷ [])) l.conjuncts [] l.all.items l.conjunct-index
