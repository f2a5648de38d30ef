-- The greedy list for a chain of sets, and what `grow` and `join_tree` promise.
use Rattle.std.specs.Prelude.{◌≡◌, ℕ, ◌<◌, ◌≤◌, ◌⊎◌, Bool, true, false, List, [], ◌∷◌, ◌++◌, length, map, slice_index}
use Rattle.rpt_base.specs.declared.sets.RelSet.{RelSet}
use Rattle.join_graph.specs.declared.tree.Link.{Link}
use Rattle.join_graph.specs.declared.tree.Tree.{Tree}
use Rattle.join_graph.specs.JoinList.{set_of, everyone, listed_by, BeginsWith, HasParents, IsAcyclic, IsAll, IsJoinList, IsSetOf}
use Rattle.rpt_base.specs.Lists.{has}
use Rattle.join_graph.specs.Weights.{needed_of, total, weight_of, IsBest}
use Rattle.largest_root.specs.declared.errors.TreeError.{TreeError}
use Rattle.largest_root.specs.declared.errors.TreeError.TheVariants.{Cyclic, Memory}

-- child i with parent j does not come before child c with parent p: the heavier pair comes first, then the larger child,
-- then the lesser child, then the lesser parent
abbrev pub NotBefore : (ℕ → ℕ → ℕ) → (ℕ → ℕ) → ℕ → ℕ → ℕ → ℕ → Type 0
NotBefore weight size i j c p =
    (weight i j < weight c p)
    ⊎ ((weight i j ≡ weight c p)
    × ((size i < size c) ⊎ ((size i ≡ size c) × ((c < i) ⊎ ((c ≡ i) × (p ≤ j))))))

-- behind what is listed, each link is the first of all pairs of a relation of the set that is not listed and one that is,
-- until the set is used up
abbrev pub Greedy : (ℕ → ℕ → ℕ) → (ℕ → ℕ) → (ℕ → Bool) → List ℕ → List Link → Type 0
Greedy weight size set listed [] = (r : ℕ) → set r ≡ true → has r listed ≡ true
Greedy weight size set listed (l ∷ links) =
    (set l.child ≡ true)
    × (has l.child listed ≡ false)
    × (has l.parent listed ≡ true)
    × ((i j : ℕ) → set i ≡ true → has i listed ≡ false → has j listed ≡ true → NotBefore weight size i j l.child l.parent)
    × Greedy weight size set (l.child ∷ listed) links

-- the same for one set after another
abbrev pub GreedyChain : (ℕ → ℕ → ℕ) → (ℕ → ℕ) → List (ℕ → Bool) → List ℕ → List Link → Type 0
GreedyChain weight size [] listed links = links ≡ []
GreedyChain weight size (set ∷ sets) listed links =
    (front : List Link)
    × (back : List Link)
    × (links ≡ front ++ back)
    × Greedy weight size set listed front
    × GreedyChain weight size sets (listed_by listed front) back

-- b is larger than a, or as large and not behind it
abbrev pub IsLargerOf : (ℕ → ℕ) → ℕ → ℕ → Type 0
IsLargerOf size a b = (size a < size b) ⊎ ((size a ≡ size b) × (b ≤ a))

-- the largest relation of the set, and the least of them on a tie
abbrev pub IsLargest : (ℕ → ℕ) → (ℕ → Bool) → ℕ → Type 0
IsLargest size set root = (set root ≡ true) × ((i : ℕ) → set i ≡ true → IsLargerOf size i root)

-- the greedy list for a chain of sets: the largest relation of the first set, and the greedy links
abbrev pub IsGreedyList : (ℕ → ℕ → ℕ) → (ℕ → ℕ) → (ℕ → Bool) → List (ℕ → Bool) → ℕ → List Link → Type 0
IsGreedyList weight size set sets root links =
    IsLargest size set root × GreedyChain weight size (set ∷ sets) (root ∷ []) links

-- the set of all relations alone, or a set of some and then the set of all
abbrev pub IsChain : ℕ → List RelSet → Type 0
IsChain n [] = ⊥
IsChain n (all ∷ []) = IsAll n all
IsChain n (set ∷ all ∷ []) = IsSetOf n set × IsAll n all
IsChain n (x ∷ y ∷ z ∷ rest) = ⊥

-- the tree is the greedy list for the chain
abbrev pub IsGrown : List (List ℕ) → List ℕ → List RelSet → Tree → Type 0
IsGrown vs sizes [] t = ⊥
IsGrown vs sizes (set ∷ sets) t = IsGreedyList (weight_of vs) (slice_index sizes) (set_of set) (map set_of sets) t.root t.links

-- the list has each set of the chain before what is outside of it
abbrev pub ListsEach : List RelSet → ℕ → List Link → Type 0
ListsEach [] root links = Unit {0}
ListsEach (set ∷ sets) root links = BeginsWith (set_of set) root links × ListsEach sets root links

-- no list with parents that has each set of the chain before what is outside of it weighs more than the tree
abbrev pub IsHeaviest : List (List ℕ) → List RelSet → Tree → Type 0
IsHeaviest vs chain t =
    (root : ℕ) (links : List Link) → HasParents (length vs) root links → ListsEach chain root links
    → total (weight_of vs) links ≤ total (weight_of vs) t.links

-- the tree is the greedy list for all relations, and a join list
pub record IsLargestRoot (vs : List (List ℕ)) (sizes : List ℕ) (t : Tree) : Type 0 where
  pub greedy : IsGreedyList (weight_of vs) (slice_index sizes) (everyone (length vs)) [] t.root t.links
  pub joins : IsJoinList vs t.root t.links

-- there is no join list: the heaviest list with parents weighs less than is needed
pub record IsCyclic (vs : List (List ℕ)) (best needed : ℕ) : Type 0 where
  pub none : IsAcyclic vs → ⊥
  pub heaviest : IsBest (length vs) (weight_of vs) best
  pub sum : needed ≡ needed_of vs
  pub below : best < needed

-- what a refusal says
abbrev pub IsRefused : List (List ℕ) → TreeError → Type 0
IsRefused vs (Cyclic best needed) = IsCyclic vs best needed
IsRefused vs Memory = Unit {0}
