use Rattle.script_rules.proofs.ScopeFacts.{IsFound}
use Rattle.script_rules.proofs.scope.Scope.resolve.Given as goal

abbrev pub invariant-loop-relation : goal.invariant-loop-relation
invariant-loop-relation l = IsFound l.self l.name l.found l.relation
