use Rattle.std.proofs.Common.{◌≡◌, ◌++◌, map, take}
use Rattle.transfer_plan.specs.Layouts.{keys_forward}
use Rattle.transfer_plan.proofs.layout.Layout.add_keys_forward.Given as goal

abbrev pub invariant-loop-child : goal.invariant-loop-child
invariant-loop-child l = l.ports.items ≡ l.initial.ports.items ++ map (keys_forward l.self) (take l.child-index l.children)
