use Rattle.binder.specs.Binding.{declaration}
use Rattle.binder.proofs.GatherFacts.{IsMapped}
use Rattle.binder.proofs.used.declarations.Given as goal

abbrev pub invariant-loop-column : goal.invariant-loop-column
invariant-loop-column l = IsMapped declaration l.columns l.declared.items l.column-index
