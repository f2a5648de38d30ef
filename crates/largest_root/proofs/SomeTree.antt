-- There is a tree for each chain, and for all relations a tree or a refusal.
use Rattle.std.proofs.Common.{◌≡◌, ℕ, ◌<◌, ◌≤◌, ◌⊎◌, true, List, [], ◌∷◌, length, map, slice_index, refl, sym, ◌∙◌, inl, inr, lt-ltb, arith}
use Rattle.std.proofs.lemmas.Bool.{cases_eq}
use Rattle.rpt_base.specs.declared.sets.RelSet.{RelSet}
use Rattle.join_graph.specs.declared.tree.Link.{Link}
use Rattle.join_graph.specs.declared.tree.Tree.{Tree}
use Rattle.join_graph.specs.JoinList.{AreRising, IsAcyclic, IsAll, IsJoinList, everyone, set_of}
use Rattle.join_graph.specs.Weights.{needed_of, total, weight_of}
use Rattle.join_graph.proofs.ListFacts.{everyone-below}
use Rattle.join_graph.proofs.NeededFacts.{runs_from_total}
use Rattle.join_graph.proofs.WeightFacts.{distinct_vars, one-best}
use Rattle.largest_root.specs.Greedy.{IsChain, IsCyclic, IsGreedyList, IsGrown, IsLargestRoot}
use Rattle.largest_root.proofs.GreatestFacts.{greedy_parents}
use Rattle.largest_root.proofs.JoinFacts.{greedy-le-needed, weight_from_acyclic}
use Rattle.largest_root.proofs.SomeList.{list-there}
use Rattle.largest_root.proofs.TreeFacts.{list-cyclic}

-- a set of all relations holds none beyond them, and the first
all-below : (n : ℕ) (all : RelSet) → IsAll n all → (r : ℕ) → set_of all r ≡ true → r < n
all-below n all h r k = everyone-below n r (sym (h r) ∙ k)

all-first : (n : ℕ) (all : RelSet) → 1 ≤ n → IsAll n all → set_of all 0 ≡ true
all-first n all some h = h 0 ∙ lt-ltb 0 n (omega arith)

-- a list as a tree
tree-there : (vs : List (List ℕ)) (sizes : List ℕ) (set : RelSet) (sets : List RelSet)
    → ((root : ℕ) × (links : List Link) × IsGreedyList (weight_of vs) (slice_index sizes) (set_of set) (map set_of sets) root links)
    → (t : Tree) × IsGrown vs sizes (set ∷ sets) t
tree-there vs sizes set sets list = (record { root = list.0; links = list.1 }, list.2)

-- there is a tree for each chain
pub grown-there : (vs : List (List ℕ)) (sizes : List ℕ) (chain : List RelSet) → 1 ≤ length vs → IsChain (length vs) chain → (t : Tree) × IsGrown vs sizes chain t
grown-there vs sizes [] some k = absurd k
grown-there vs sizes (all ∷ []) some k =
    tree-there vs sizes all []
    (list-there (weight_of vs) (slice_index sizes) (length vs) (set_of all) [] (all-below (length vs) all k, tt) 0 (all-first (length vs) all some k))
grown-there vs sizes (set ∷ all ∷ []) some k =
    tree-there vs sizes set (all ∷ [])
    (list-there (weight_of vs) (slice_index sizes) (length vs) (set_of set) (set_of all ∷ []) (k.0.within, (all-below (length vs) all k.1, tt)) k.0.some.0 k.0.some.1)
grown-there vs sizes (x ∷ y ∷ z ∷ rest) some k = absurd k

module _ (vs : List (List ℕ)) (rising : AreRising vs) where
  -- the greedy list for all relations, each of the size that it has
  everyone-there : (size : ℕ → ℕ) → 1 ≤ length vs → (root : ℕ) × (links : List Link) × IsGreedyList (weight_of vs) size (everyone (length vs)) [] root links
  everyone-there size some = list-there (weight_of vs) size (length vs) (everyone (length vs)) [] (everyone-below (length vs), tt) 0 (lt-ltb 0 (length vs) (omega arith))

  -- a greedy list that weighs what is needed is a join list
  pub list-joins : (size : ℕ → ℕ) (root : ℕ) (links : List Link) → IsGreedyList (weight_of vs) size (everyone (length vs)) [] root links
      → total (weight_of vs) links ≡ needed_of vs → IsJoinList vs root links
  list-joins size root links g e =
      let parents = greedy_parents (weight_of vs) size (length vs) root links g in
      record { parents = parents; runs = runs_from_total vs (distinct_vars vs rising) root links parents e }

  -- where there is a join list, there is a tree
  pub largest_root-there : (sizes : List ℕ) → IsAcyclic vs → (t : Tree) × IsLargestRoot vs sizes t
  largest_root-there sizes acyclic =
      let list = everyone-there (slice_index sizes) (omega (arith, acyclic.2.parents.first)) in (
        record { root = list.0; links = list.1 },
        record { greedy = list.2; joins = list-joins (slice_index sizes) list.0 list.1 list.2 (weight_from_acyclic vs rising (slice_index sizes) list.0 list.1 list.2 acyclic) },
      )

  -- there is a join list or a refusal
  pub joins-or-not : 1 ≤ length vs → IsAcyclic vs ⊎ ((best : ℕ) × (needed : ℕ) × IsCyclic vs best needed)
  joins-or-not some = by (everyone-there (λ r. 0) some)
    where
      by : ((root : ℕ) × (links : List Link) × IsGreedyList (weight_of vs) (λ r. 0) (everyone (length vs)) [] root links)
          → IsAcyclic vs ⊎ ((best : ℕ) × (needed : ℕ) × IsCyclic vs best needed)
      by (root, links, g) = elim (cases_eq (total (weight_of vs) links) (needed_of vs)) [
        | inl e ↦ inl (root, links, list-joins (λ r. 0) root links g e)
        | inr differ ↦
            inr (
              total (weight_of vs) links,
              needed_of vs,
              list-cyclic vs rising (λ r. 0) root links g (total (weight_of vs) links) (needed_of vs) refl (greedy-le-needed vs rising (λ r. 0) root links g) refl differ,
            )
      ]

-- a refusal has only two numbers
pub one-refusal : (vs : List (List ℕ)) (a m b n : ℕ) → IsCyclic vs a m → IsCyclic vs b n → (a ≡ b) × (m ≡ n)
one-refusal vs a m b n h k = (one-best (length vs) (weight_of vs) a b h.heaviest k.heaviest, h.sum ∙ sym k.sum)
