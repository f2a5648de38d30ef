use Rattle.std.proofs.Common.{◌≡◌, ◌*◌, ◌≤◌, map}
use Rattle.join_graph.proofs.NeededSteps.{needed_before}
use Rattle.join_graph.proofs.graph.Graph.needed.Given as goal

abbrev pub invariant-loop-i : goal.invariant-loop-i
invariant-loop-i l = record { sum : l.sum ≡ needed_before (map (λ s. s.items) l.self-inside.var_sets.items) l.i; bounded : l.sum ≤ 64 * l.i }
