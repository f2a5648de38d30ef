use Rattle.std.proofs.Common.{[], ◌∷◌}
use Rattle.join_graph.specs.JoinList.{listed_by, set_of}
use Rattle.largest_root.specs.Steps.{IsBestSoFar}
use Rattle.largest_root.proofs.links.best_link.Given as goal

abbrev pub invariant-loop-child : goal.invariant-loop-child
invariant-loop-child l = IsBestSoFar l.graph l.sizes (set_of l.set) (listed_by (l.root ∷ []) l.links) l.child l.best
