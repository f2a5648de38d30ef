use Rattle.std.proofs.Common.{◌≡◌, ◌++◌, map, take}
use Rattle.transfer_plan.specs.declared.region.Region.TheVariants as region
use Rattle.transfer_plan.proofs.regions.add_keys.Given as goal

abbrev pub invariant-loop-child : goal.invariant-loop-child
invariant-loop-child l = l.regions.items ≡ l.initial.regions.items ++ map region.BackwardKeys (take l.child-index l.children)
