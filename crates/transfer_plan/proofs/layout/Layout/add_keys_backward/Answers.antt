use Rattle.std.proofs.Common.{◌<◌, ℕ, length, get_or, arith, ap, ◌∙◌}
use Rattle.std.proofs.lemmas.Grind.{common_steps}
use Rattle.transfer_plan.specs.declared.region.Region.TheVariants as region
use Rattle.transfer_plan.specs.Layouts.{keys_backward}
use Rattle.transfer_plan.specs.TransferPlan.{port}
use Rattle.transfer_plan.proofs.Serves.{map_more}
use Rattle.transfer_plan.proofs.layout.Layout.add_keys_backward.Goals as goal

pub loop-child-preserved : goal.loop-child-preserved
loop-child-preserved c =
    let l = c.args.self.now in let xs = c.args.children.now in let i = c.loop-child.child-index in
    let less : i < length xs = omega arith in
    map_more (keys_backward l) xs i c.args.ports.now.items c.loop-child.ports.items _ _ less c.in_ok-push.ensures.items c.loop-child.invariant
    (c.port-keys.ensures ∙ ap (λ (places : ℕ). port l.tree.now.root l.tree.now.links l.keyed (region.BackwardKeys (get_or xs i 0)) places) c.parent_of.ensures)

pub returns : goal.returns
returns c = grind (arith, common_steps)
