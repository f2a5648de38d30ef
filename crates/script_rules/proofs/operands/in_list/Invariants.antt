use Rattle.std.specs.Prelude.{None}
use Rattle.sql_grammar.specs.declared.tree.Item.{Item}
use Rattle.script_rules.specs.Violations.{reference_violations}
use Rattle.script_rules.proofs.ViolationFacts.{IsNoted}
use Rattle.script_rules.proofs.operands.in_list.Given as goal

abbrev pub invariant-loop-item : goal.invariant-loop-item
invariant-loop-item l = IsNoted (λ (i : Item). reference_violations l.scope i.column) l.items None l.found l.item-index
