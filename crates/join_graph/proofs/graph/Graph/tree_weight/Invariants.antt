use Rattle.std.proofs.Common.{◌≡◌, take}
use Rattle.std.specs.List.{sum_by}
use Rattle.join_graph.specs.Weights.{weight_of}
use Rattle.join_graph.proofs.graph.Graph.tree_weight.Given as goal

abbrev pub invariant-loop-link : goal.invariant-loop-link
invariant-loop-link l = l.sum ≡ sum_by (λ k. weight_of l.self k.child k.parent) (take l.link-index l.fn.tree.links)
