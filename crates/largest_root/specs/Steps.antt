-- What the steps of the growth find.
-- Words of this crate's own contracts.
use Rattle.std.specs.Prelude.{◌≡◌, ℕ, ◌<◌, ◌≤◌, ◌⊎◌, Bool, true, false, List, [], ◌∷◌, ◌++◌, length, slice_index, Option, MatchOption}
use Rattle.rpt_base.specs.declared.sets.RelSet.{RelSet}
use Rattle.join_graph.specs.declared.tree.Link.{Link}
use Rattle.join_graph.specs.JoinList.{listed_by, set_of}
use Rattle.rpt_base.specs.Lists.{has}
use Rattle.join_graph.specs.Weights.{weight_of}
use Rattle.largest_root.specs.Greedy.{Greedy, NotBefore}

-- p is as good a parent of the child as j
abbrev pub IsParentFor : List (List ℕ) → ℕ → ℕ → ℕ → Type 0
IsParentFor vs child j p =
    (weight_of vs child j < weight_of vs child p) ⊎ ((weight_of vs child j ≡ weight_of vs child p) × (p ≤ j))

-- p is as good a parent of the child as any listed relation below the limit
abbrev pub IsBestParent : List (List ℕ) → List ℕ → ℕ → ℕ → ℕ → Type 0
IsBestParent vs listed child limit p = (j : ℕ) → j < limit → has j listed ≡ true → IsParentFor vs child j p

-- the link does not come after the pair (i, j)
abbrev pub IsLinkFor : List (List ℕ) → List ℕ → ℕ → ℕ → Link → Type 0
IsLinkFor vs sizes i j l = NotBefore (weight_of vs) (slice_index sizes) i j l.child l.parent

-- a link from a relation of the set that is not listed to one that is
pub record IsOpen (set : ℕ → Bool) (listed : List ℕ) (n : ℕ) (l : Link) : Type 0 where
  pub inside : l.child < n
  pub in_set : set l.child ≡ true
  pub fresh : has l.child listed ≡ false
  pub known : l.parent < n
  pub shown : has l.parent listed ≡ true

-- no open pair with a child below the limit comes before the link
abbrev pub IsBestLink : List (List ℕ) → List ℕ → (ℕ → Bool) → List ℕ → ℕ → Link → Type 0
IsBestLink vs sizes set listed limit l =
    (i j : ℕ) → i < limit → set i ≡ true → has i listed ≡ false → j < length vs → has j listed ≡ true
    → IsLinkFor vs sizes i j l

-- the link is open, and the first of those with a child below the limit
pub record IsBestOf (vs : List (List ℕ)) (sizes : List ℕ) (set : ℕ → Bool) (listed : List ℕ) (limit : ℕ) (l : Link) : Type 0 where
  pub below : l.child < limit
  pub open_pair : IsOpen set listed (length vs) l
  pub best : IsBestLink vs sizes set listed limit l

-- each relation of the set below the limit is listed
abbrev pub IsUsedUp : (ℕ → Bool) → List ℕ → ℕ → Type 0
IsUsedUp set listed limit = (i : ℕ) → i < limit → set i ≡ true → has i listed ≡ true

-- the best open link with a child below the limit, if there is any
abbrev pub IsBestSoFar : List (List ℕ) → List ℕ → (ℕ → Bool) → List ℕ → ℕ → Option Link → Type 0
IsBestSoFar vs sizes set listed limit best =
    MatchOption best (IsUsedUp set listed limit) (λ l. IsBestOf vs sizes set listed limit l)

-- the largest relation of the set below the limit, and the least of them on a tie
pub record IsLargestBelow (sizes : List ℕ) (set : ℕ → Bool) (limit root : ℕ) : Type 0 where
  pub inside : root < limit
  pub in_set : set root ≡ true
  pub largest : (i : ℕ) → i < limit → set i ≡ true
      → (slice_index sizes i < slice_index sizes root) ⊎ ((slice_index sizes i ≡ slice_index sizes root) × (root ≤ i))

-- no relation below the limit is in the set
abbrev pub IsEmptyBelow : (ℕ → Bool) → ℕ → Type 0
IsEmptyBelow set limit = (i : ℕ) → i < limit → set i ≡ false

-- what is found is the largest relation of the set below n, if it has one there
abbrev pub FindsLargestBelow : List ℕ → (ℕ → Bool) → ℕ → Option ℕ → Type 0
FindsLargestBelow sizes set n found = MatchOption found (IsEmptyBelow set n) (λ root. IsLargestBelow sizes set n root)

-- the list with this root goes on with the greedy links over the set
abbrev pub GrowsOver : List (List ℕ) → List ℕ → RelSet → ℕ → List Link → List Link → Type 0
GrowsOver vs sizes set root before after =
    (more : List Link) × (after ≡ before ++ more)
    × Greedy (weight_of vs) (slice_index sizes) (set_of set) (listed_by (root ∷ []) before) more
