use Rattle.std.proofs.Common.{arith}
use Rattle.std.proofs.lemmas.Grind.{common_steps}
use Rattle.binder.specs.Binding.{item_output}
use Rattle.binder.proofs.GatherFacts.{gathered-end}
use Rattle.binder.proofs.shown.add_items.Goals as goal

pub returns : goal.returns
returns c = gathered-end (item_output c.args.scope.now) c.args.items.now c.args.shown.now.items c.loop-item.shown.items c.loop-item.item-index (omega arith) c.loop-item.invariant

pub loop-item-preserved : goal.loop-item-preserved
loop-item-preserved c = grind (arith, common_steps)
