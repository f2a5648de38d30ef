use Rattle.std.proofs.Common.{◌≡◌, ◌++◌, take}
use Rattle.std.specs.List.{flat_map}
use Rattle.transfer_plan.specs.TransferPlan.{forward_regions}
use Rattle.transfer_plan.proofs.regions.add_upward.Given as goal

abbrev pub invariant-loop-relation : goal.invariant-loop-relation
invariant-loop-relation l = l.regions.items ≡ l.initial.regions.items ++ flat_map (forward_regions l.tree.root l.tree.links l.keyed) (take l.relation-index l.members)
