use Rattle.std.proofs.Common.{◌≡◌, ◌<◌, length, true, [], ◌∷◌}
use Rattle.join_graph.specs.JoinList.{listed_by}
use Rattle.rpt_base.specs.Lists.{has}
use Rattle.largest_root.specs.Steps.{IsBestParent}
use Rattle.largest_root.proofs.parents.best_parent.Given as goal

abbrev pub invariant-loop-parent : goal.invariant-loop-parent
invariant-loop-parent l = record { known : l.best < length l.graph; shown : has l.best (listed_by (l.root ∷ []) l.links) ≡ true; best : IsBestParent l.graph (listed_by (l.root ∷ []) l.links) l.child l.parent l.best }
