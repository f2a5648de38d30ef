-- From the tree that lists a set first to the set's join list, or to none at all.
use Rattle.std.proofs.Common.{◌≡◌, ℕ, zero, suc, ◌<◌, Bool, true, List, [], ◌∷◌, length, slice_index, refl, subst, ◌∙◌, sym, arith}
use Rattle.std.specs.List.{All}
use Rattle.rpt_base.specs.declared.sets.RelSet.{RelSet}
use Rattle.join_graph.specs.declared.tree.Tree.{Tree}
use Rattle.join_graph.specs.JoinList.{set_of, everyone, AreRising, HasParents, IsAll, IsGraph, IsJoinList}
use Rattle.join_graph.specs.SafeSet.{IsSafe}
use Rattle.join_graph.specs.Weights.{weight_of, needed_of, total}
use Rattle.largest_root.specs.Greedy.{IsGreedyList}
use Rattle.largest_root.proofs.GreatestFacts.{greedy_parents_from}
use Rattle.largest_root.proofs.HeaviestFacts.{second-same}
use Rattle.largest_root.proofs.JoinFacts.{begins, weight_from_safe}
use Rattle.safe_subjoin.specs.SafeOrder.{IsSafeList}

-- sizes that are all 0
zero-size : (sizes : List ℕ) → All (λ size. size ≡ 0) sizes → (r : ℕ) → slice_index sizes r ≡ 0
zero-size [] h r = refl
zero-size (size ∷ sizes) h zero = h 0 0 (omega arith)
zero-size (size ∷ sizes) h (suc r) = zero-size sizes (λ k d l. h (suc k) d (omega arith)) r

-- the greedy list for a set and then all relations, each of size 0, is a join list or shows that there is none
module _ (vs : List (List ℕ)) (rising : AreRising vs) (set : ℕ → Bool) (below : (r : ℕ) → set r ≡ true → r < length vs)
    (t : Tree) (g : IsGreedyList (weight_of vs) (λ r. 0) set (everyone (length vs) ∷ []) t.root t.links) where
  pub list-safe : IsJoinList vs t.root t.links → IsSafeList vs set t
  list-safe joins = record { greedy = g; joins = joins; begins = begins vs rising (λ r. 0) t.root t.links set below g }

  -- where its weight is not what is needed, no join list begins with the set
  pub list-unsafe : (weight needed : ℕ) → weight ≡ total (weight_of vs) t.links → needed ≡ needed_of vs → (weight ≡ needed → ⊥) → IsSafe vs set → ⊥
  list-unsafe weight needed w n differ safe = differ (w ∙ weight_from_safe vs rising (λ r. 0) t.root t.links set below g safe ∙ sym n)

module _ (vs : List (List ℕ)) (graph : IsGraph vs) (sizes : List ℕ) (zeros : All (λ size. size ≡ 0) sizes) where
  module _ (set : ℕ → Bool) (below : (r : ℕ) → set r ≡ true → r < length vs) (all : RelSet) (is_all : IsAll (length vs) all) where
    module _ (t : Tree) (g : IsGreedyList (weight_of vs) (slice_index sizes) set (set_of all ∷ []) t.root t.links) where
      -- the greedy list over all relations, each of size 0
      pub set-list : IsGreedyList (weight_of vs) (λ r. 0) set (everyone (length vs) ∷ []) t.root t.links
      set-list =
          subst (λ a. IsGreedyList (weight_of vs) a set (everyone (length vs) ∷ []) t.root t.links) (λ k q. zero-size sizes zeros q k)
          (second-same (weight_of vs) (slice_index sizes) set (set_of all) (everyone (length vs)) is_all t.root t.links g)

      pub set-parents : HasParents (length vs) t.root t.links
      set-parents = greedy_parents_from (weight_of vs) (λ r. 0) (length vs) t.root t.links set below set-list

      pub set-safe : IsJoinList vs t.root t.links → IsSafeList vs set t
      set-safe = list-safe vs graph.rising set below t set-list

      pub set-unsafe : (weight needed : ℕ) → weight ≡ total (weight_of vs) t.links → needed ≡ needed_of vs → (weight ≡ needed → ⊥)
          → IsSafe vs set → ⊥
      set-unsafe = list-unsafe vs graph.rising set below t set-list
