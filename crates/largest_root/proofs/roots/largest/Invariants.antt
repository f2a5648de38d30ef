use Rattle.join_graph.specs.JoinList.{set_of}
use Rattle.largest_root.specs.Steps.{FindsLargestBelow}
use Rattle.largest_root.proofs.roots.largest.Given as goal

abbrev pub invariant-loop-relation : goal.invariant-loop-relation
invariant-loop-relation l = FindsLargestBelow l.sizes (set_of l.set) l.relation l.best
