-- Where there is a join list, the greedy list weighs what is needed: for all relations, and for a set and then all.
use Rattle.std.proofs.Common.{◌≡◌, ℕ, ◌<◌, ◌≤◌, Bool, true, List, [], ◌∷◌, length, arith}
use Rattle.std.specs.List.{sum_by}
use Rattle.join_graph.specs.declared.tree.Link.{Link}
use Rattle.join_graph.specs.JoinList.{AreRising, IsAcyclic, BeginsWith, everyone}
use Rattle.join_graph.specs.Weights.{weight_of, needed_of, total, IsBest}
use Rattle.join_graph.specs.SafeSet.{IsSafe}
use Rattle.largest_root.specs.Greedy.{IsGreedyList}
use Rattle.largest_root.proofs.GreatestFacts.{greedy_parents, greatest, greedy_best, greedy_begins, greedy_parents_from, greatest_from}
use Rattle.join_graph.proofs.NeededFacts.{total-le-needed, total_of_runs}
use Rattle.join_graph.proofs.WeightFacts.{distinct_vars, weight_of-comm, weight_of-le}

module _ (vs : List (List ℕ)) (rising : AreRising vs) (size : ℕ → ℕ) (root : ℕ) (gs : List Link) where
  module _ (g : IsGreedyList (weight_of vs) size (everyone (length vs)) [] root gs) where
    pub greedy-le-needed : total (weight_of vs) gs ≤ needed_of vs
    greedy-le-needed = total-le-needed vs (distinct_vars vs rising) root gs (greedy_parents (weight_of vs) size (length vs) root gs g)

    -- where a join list exists, the greedy list weighs what is needed
    pub weight_from_acyclic : IsAcyclic vs → total (weight_of vs) gs ≡ needed_of vs
    weight_from_acyclic (r, links, j) =
        omega (
          arith,
          greedy-le-needed,
          total_of_runs vs (distinct_vars vs rising) r links j.parents j.runs,
          greatest (weight_of vs) size (length vs) root gs (weight_of-comm vs rising) (sum_by length vs) (weight_of-le vs) g r links j.parents,
        )

    pub best_weight : IsBest (length vs) (weight_of vs) (total (weight_of vs) gs)
    best_weight = greedy_best (weight_of vs) size (length vs) root gs (weight_of-comm vs rising) (sum_by length vs) (weight_of-le vs) g

  module _ (set : ℕ → Bool) (below : (r : ℕ) → set r ≡ true → r < length vs) (g : IsGreedyList (weight_of vs) size set (everyone (length vs) ∷ []) root gs) where
    pub greedy-le-needed_from : total (weight_of vs) gs ≤ needed_of vs
    greedy-le-needed_from = total-le-needed vs (distinct_vars vs rising) root gs (greedy_parents_from (weight_of vs) size (length vs) root gs set below g)

    pub begins : BeginsWith set root gs
    begins = greedy_begins (weight_of vs) size (length vs) root gs set below g

    -- where a join list begins with the set, the greedy list weighs what is needed
    pub weight_from_safe : IsSafe vs set → total (weight_of vs) gs ≡ needed_of vs
    weight_from_safe (r, links, j, b) =
        omega (
          arith,
          greedy-le-needed_from,
          total_of_runs vs (distinct_vars vs rising) r links j.parents j.runs,
          greatest_from (weight_of vs) size (length vs) root gs set below (weight_of-comm vs rising) (sum_by length vs) (weight_of-le vs) g r links j.parents b,
        )
