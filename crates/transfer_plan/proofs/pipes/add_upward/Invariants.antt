use Rattle.std.proofs.Common.{◌≡◌, ◌++◌, map, take}
use Rattle.transfer_plan.specs.Layouts.{forward_of}
use Rattle.transfer_plan.proofs.pipes.add_upward.Given as goal

abbrev pub invariant-loop-relation : goal.invariant-loop-relation
invariant-loop-relation l = l.pipes.items ≡ l.initial.pipes.items ++ map (forward_of l.layout) (take l.relation-index l.members)
