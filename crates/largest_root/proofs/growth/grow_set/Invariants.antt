use Rattle.std.proofs.Common.{◌≡◌, List, [], ◌∷◌, ◌++◌, length, slice_index}
use Rattle.join_graph.specs.declared.tree.Link.{Link}
use Rattle.join_graph.specs.JoinList.{listed_by, set_of}
use Rattle.join_graph.specs.Weights.{weight_of}
use Rattle.join_graph.proofs.Unlisted.{unlisted}
use Rattle.largest_root.proofs.GrowthFacts.{GreedySteps}
use Rattle.largest_root.proofs.growth.grow_set.Given as goal

abbrev pub invariant-loop-link : goal.invariant-loop-link
invariant-loop-link l = (more : List Link) × (l.links.items ≡ l.initial.links.items ++ more) × GreedySteps (weight_of l.graph) (slice_index l.sizes) (set_of l.set) (listed_by (l.root ∷ []) l.initial.links.items) more

abbrev pub decreases-loop-link : goal.decreases-loop-link
decreases-loop-link l = length (unlisted (length l.graph) (listed_by (l.root ∷ []) l.links.items))
