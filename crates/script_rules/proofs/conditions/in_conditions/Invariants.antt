use Rattle.std.specs.Prelude.{None}
use Rattle.std.specs.Option.{option_to_list}
use Rattle.sql_grammar.specs.declared.tree.Source.{Source}
use Rattle.script_rules.proofs.ViolationFacts.{IsNoted}
use Rattle.script_rules.specs.Violations.{violations_in}
use Rattle.script_rules.proofs.conditions.in_conditions.Given as goal

abbrev pub invariant-loop-source : goal.invariant-loop-source
invariant-loop-source l = IsNoted (λ (s : Source). violations_in l.scope (option_to_list s.on)) l.source-items None l.found l.source-index
