-- From the greedy list for the set of all relations to the tree.
use Rattle.std.proofs.Common.{◌≡◌, ℕ, ◌<◌, ◌≤◌, Bool, List, [], ◌∷◌, length, slice_index, sym, ◌∙◌, subst, arith}
use Rattle.join_graph.specs.declared.tree.Link.{Link}
use Rattle.rpt_base.specs.declared.sets.RelSet.{RelSet}
use Rattle.join_graph.specs.JoinList.{AreRising, HasParents, everyone, IsGraph, set_of, IsAll}
use Rattle.join_graph.specs.Weights.{total, weight_of, needed_of, IsBest}
use Rattle.largest_root.specs.Greedy.{Greedy, IsCyclic, IsGreedyList, IsLargest}
use Rattle.largest_root.proofs.GreatestFacts.{greedy_parents}
use Rattle.largest_root.proofs.JoinFacts.{weight_from_acyclic, best_weight}

module _ (w : ℕ → ℕ → ℕ) (size : ℕ → ℕ) (set same : ℕ → Bool) (h : (r : ℕ) → set r ≡ same r) where
  pub greedy-same : (listed : List ℕ) (ls : List Link) → Greedy w size set listed ls → Greedy w size same listed ls
  greedy-same listed [] g = λ r k. g r (h r ∙ k)
  greedy-same listed (l ∷ ls) g = (sym (h l.child) ∙ g.0, g.1, g.2, (λ i j s. g.3 i j (h i ∙ s)), greedy-same (l.child ∷ listed) ls g.4)

  pub largest-same : (root : ℕ) → IsLargest size set root → IsLargest size same root
  largest-same root l = (sym (h root) ∙ l.0, λ i s. l.1 i (h i ∙ s))

  pub list-same : (root : ℕ) (ls : List Link) → IsGreedyList w size set [] root ls → IsGreedyList w size same [] root ls
  list-same root ls (largest, (front, back, joined, greedy, done)) = (largest-same root largest, (front, back, joined, greedy-same (root ∷ []) front greedy, done))

-- where the greedy list weighs less than is needed, there is no join list
pub list-cyclic : (vs : List (List ℕ)) → AreRising vs → (size : ℕ → ℕ) (root : ℕ) (links : List Link) → IsGreedyList (weight_of vs) size (everyone (length vs)) [] root links
    → (best needed : ℕ) → best ≡ total (weight_of vs) links → best ≤ needed_of vs → needed ≡ needed_of vs → (best ≡ needed → ⊥) → IsCyclic vs best needed
list-cyclic vs rising size root links g best needed b low n differ = record {
  none = λ a. differ (omega (arith, b, n, weight_from_acyclic vs rising size root links g a));
  heaviest = subst (λ z. IsBest (length vs) (weight_of vs) z) (sym b) (best_weight vs rising size root links g);
  sum = n;
  below = less best needed differ (omega (arith, low, n));
}
  where
    less : (x y : ℕ) → (x ≡ y → ⊥) → x ≤ y → x < y
    less x y d l = omega arith

module _ (vs : List (List ℕ)) (graph : IsGraph vs) (sizes : List ℕ) (all : RelSet) (is_all : IsAll (length vs) all) (root : ℕ) (links : List Link) (g : IsGreedyList (weight_of vs) (slice_index sizes) (set_of all) [] root links) where
  -- the greedy list for the set of all relations
  pub for_all : IsGreedyList (weight_of vs) (slice_index sizes) (everyone (length vs)) [] root links
  for_all = list-same (weight_of vs) (slice_index sizes) (set_of all) (everyone (length vs)) is_all root links g

  pub tree-parents : HasParents (length vs) root links
  tree-parents = greedy_parents (weight_of vs) (slice_index sizes) (length vs) root links for_all

  -- it weighs less than is needed, so there is no join list
  pub tree-cyclic : (best needed : ℕ) → best ≡ total (weight_of vs) links → best ≤ needed_of vs → needed ≡ needed_of vs
      → (best ≡ needed → ⊥) → IsCyclic vs best needed
  tree-cyclic = list-cyclic vs graph.rising (slice_index sizes) root links for_all
