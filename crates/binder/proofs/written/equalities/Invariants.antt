use Rattle.std.proofs.Common.{[]}
use Rattle.binder.specs.Binding.{equality_of}
use Rattle.binder.proofs.GatherFacts.{IsGathered}
use Rattle.binder.proofs.written.equalities.Given as goal

abbrev pub invariant-loop-conjunct : goal.invariant-loop-conjunct
invariant-loop-conjunct l = IsGathered (λ c. equality_of l.scope c.now) l.conjuncts [] l.found.items l.conjunct-index
