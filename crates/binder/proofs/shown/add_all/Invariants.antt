use Rattle.binder.specs.Binding.{relation_output}
use Rattle.binder.proofs.GatherFacts.{IsGatheredByNumber}
use Rattle.binder.proofs.shown.add_all.Given as goal

abbrev pub invariant-loop-relation : goal.invariant-loop-relation
invariant-loop-relation l = IsGatheredByNumber relation_output l.scope l.fn.shown.items l.shown.items l.relation
