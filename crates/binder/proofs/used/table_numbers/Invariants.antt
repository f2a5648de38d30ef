use Rattle.binder.specs.Binding.{table_number}
use Rattle.binder.proofs.GatherFacts.{IsMapped}
use Rattle.binder.proofs.used.table_numbers.Given as goal

abbrev pub invariant-loop-source : goal.invariant-loop-source
invariant-loop-source l = IsMapped (table_number l.tables) l.source-items l.numbers.items l.source-index
