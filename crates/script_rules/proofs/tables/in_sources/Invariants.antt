use Rattle.std.specs.Prelude.{None}
use Rattle.script_rules.specs.Violations.{source_violations}
use Rattle.script_rules.proofs.ViolationFacts.{IsNotedBehind}
use Rattle.script_rules.proofs.tables.in_sources.Given as goal

abbrev pub invariant-loop-number : goal.invariant-loop-number
invariant-loop-number l = IsNotedBehind (source_violations l.tables) l.sources None l.found l.number
