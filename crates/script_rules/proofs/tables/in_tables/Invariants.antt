use Rattle.std.specs.Prelude.{None}
use Rattle.script_rules.specs.Violations.{table_violations}
use Rattle.script_rules.proofs.ViolationFacts.{IsNotedBehind}
use Rattle.script_rules.proofs.tables.in_tables.Given as goal

abbrev pub invariant-loop-number : goal.invariant-loop-number
invariant-loop-number l = IsNotedBehind table_violations l.tables None l.found l.number
