use Rattle.script_rules.specs.Violations.{column_violations}
use Rattle.script_rules.proofs.ViolationFacts.{IsNotedBehind}
use Rattle.script_rules.proofs.tables.in_columns.Given as goal

abbrev pub invariant-loop-number : goal.invariant-loop-number
invariant-loop-number l = IsNotedBehind column_violations l.columns l.fn.found l.found l.number
