use Rattle.script_rules.specs.Violations.{cond_violations}
use Rattle.script_rules.proofs.ViolationFacts.{IsNoted}
use Rattle.script_rules.proofs.conditions.+in_cond.Given as goal

abbrev pub invariant-in_conds-loop-cond : goal.invariant-in_conds-loop-cond
invariant-in_conds-loop-cond l = IsNoted (cond_violations l.scope) l.conds l.fn.found l.found l.cond-index
