use Rattle.script_rules.specs.Scope.{name_of}
use Rattle.binder.proofs.GatherFacts.{IsMapped}
use Rattle.binder.proofs.used.aliases.Given as goal

abbrev pub invariant-loop-source : goal.invariant-loop-source
invariant-loop-source l = IsMapped name_of l.source-items l.names.items l.source-index
