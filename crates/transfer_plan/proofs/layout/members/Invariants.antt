use Rattle.std.proofs.Common.{◌≡◌, ◌∷◌, map, take}
use Rattle.transfer_plan.proofs.layout.members.Given as goal

abbrev pub invariant-loop-link : goal.invariant-loop-link
invariant-loop-link l = l.members.items ≡ l.tree.root ∷ map (λ m. m.child) (take l.link-index l.tree.links)
