use Rattle.binder.specs.Binding.{item_output}
use Rattle.binder.proofs.GatherFacts.{IsGathered}
use Rattle.binder.proofs.shown.add_items.Given as goal

abbrev pub invariant-loop-item : goal.invariant-loop-item
invariant-loop-item l = IsGathered (item_output l.scope) l.items l.fn.shown.items l.shown.items l.item-index
