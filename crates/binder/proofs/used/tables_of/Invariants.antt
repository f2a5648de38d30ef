use Rattle.binder.proofs.UsedFacts.{IsUsedTo}
use Rattle.binder.proofs.used.tables_of.Given as goal

abbrev pub invariant-loop-source : goal.invariant-loop-source
invariant-loop-source l = IsUsedTo l.script.tables l.source-items l.used.items l.source-index
