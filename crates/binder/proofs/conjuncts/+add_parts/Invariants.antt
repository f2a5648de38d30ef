use Rattle.std.proofs.Common.{map}
use Rattle.script_rules.specs.Conjuncts.{parts_of}
use Rattle.binder.proofs.GatherFacts.{IsGathered}
use Rattle.binder.proofs.conjuncts.+add_parts.Given as goal

abbrev pub invariant-add_all_parts-loop-cond : goal.invariant-add_all_parts-loop-cond
invariant-add_all_parts-loop-cond l = IsGathered parts_of l.conds (map (λ c. c.now) l.fn.found.items) (map (λ c. c.now) l.found.items) l.cond-index
