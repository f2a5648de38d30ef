use Rattle.std.specs.List.{flat_map}
use Rattle.script_rules.specs.Conjuncts.{parts_of}
use Rattle.script_rules.specs.Violations.{conjunct_violations}
use Rattle.script_rules.proofs.ViolationFacts.{IsNoted}
use Rattle.script_rules.proofs.conditions.+in_parts.Given as goal

abbrev pub invariant-in_all_parts-loop-cond : goal.invariant-in_all_parts-loop-cond
invariant-in_all_parts-loop-cond l = IsNoted (λ x. flat_map (conjunct_violations l.scope) (parts_of x)) l.conds l.fn.found l.found l.cond-index
