-- The greedy list for a chain is heaviest among those that list each set of the chain first.
use Rattle.std.proofs.Common.{◌≡◌, ℕ, Bool, List, [], ◌∷◌, length, slice_index}
use Rattle.join_graph.specs.declared.tree.Link.{Link}
use Rattle.join_graph.specs.declared.tree.Tree.{Tree}
use Rattle.rpt_base.specs.declared.sets.RelSet.{RelSet}
use Rattle.join_graph.specs.JoinList.{listed_by, IsGraph, everyone, set_of}
use Rattle.join_graph.specs.Weights.{weight_of}
use Rattle.largest_root.specs.Greedy.{IsGreedyList, IsChain, IsGrown, IsHeaviest}
use Rattle.largest_root.proofs.GreatestFacts.{greatest, greatest_from}
use Rattle.join_graph.proofs.WeightFacts.{weight_of-comm, weight_of-le}
use Rattle.largest_root.proofs.TreeFacts.{greedy-same, list-same}

pub second-same : (w : ℕ → ℕ → ℕ) (size : ℕ → ℕ) (set all same : ℕ → Bool) → ((r : ℕ) → all r ≡ same r) → (root : ℕ) (ls : List Link)
    → IsGreedyList w size set (all ∷ []) root ls → IsGreedyList w size set (same ∷ []) root ls
second-same w size set all same h root ls (largest, (front, rest, joined, greedy, (front', back', joined', greedy', done))) =
    (largest, (front, rest, joined, greedy, (front', back', joined', greedy-same w size all same h (listed_by (root ∷ []) front) front' greedy', done)))

pub heaviest : (vs : List (List ℕ)) (sizes : List ℕ) (chain : List RelSet) (t : Tree) → IsGraph vs → IsChain (length vs) chain
    → IsGrown vs sizes chain t → IsHeaviest vs chain t
heaviest vs sizes [] t g k grown = absurd k
heaviest vs sizes (all ∷ []) t g k grown = λ r links h each.
    greatest (weight_of vs) (slice_index sizes) (length vs) t.root t.links (weight_of-comm vs g.rising) _ (weight_of-le vs)
    (list-same (weight_of vs) (slice_index sizes) (set_of all) (everyone (length vs)) k t.root t.links grown) r links h
heaviest vs sizes (set ∷ all ∷ []) t g k grown = λ r links h each.
    greatest_from (weight_of vs) (slice_index sizes) (length vs) t.root t.links (set_of set) k.0.within (weight_of-comm vs g.rising) _ (weight_of-le vs)
    (second-same (weight_of vs) (slice_index sizes) (set_of set) (set_of all) (everyone (length vs)) k.1 t.root t.links grown) r links h each.0
heaviest vs sizes (x ∷ y ∷ z ∷ rest) t g k grown = absurd k
