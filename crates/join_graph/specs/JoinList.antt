-- Sets of relations, lists of relations with parents, and join lists.
use Rattle.std.specs.Prelude.{◌≡◌, ℕ, ◌<◌, ◌≤◌, Bool, true, false, ◌==◌, nat_lt}
use Rattle.std.specs.Prelude.{List, [], ◌∷◌, ◌++◌, length, slice_index_or}
use Rattle.std.specs.Int.{bit_at}
use Rattle.std.specs.List.{All, list_any}
use Rattle.std.specs.List.Sorted.{IsStrictlyIncreasing}
use Rattle.rpt_base.specs.Lists.{has}
use Rattle.rpt_base.specs.declared.limits.TheConstants.{MAX_COLUMNS, MAX_RELATIONS}
use Rattle.rpt_base.specs.declared.sets.RelSet.{RelSet}
use Rattle.join_graph.specs.declared.tree.Link.{Link}

-- a relation is in the set
abbrev pub set_of : RelSet → ℕ → Bool
set_of set r = bit_at set.0 r == 1

-- the set of all n relations
abbrev pub everyone : ℕ → ℕ → Bool
everyone n r = nat_lt r n

-- the set holds all n relations, and nothing else
abbrev pub IsAll : ℕ → RelSet → Type 0
IsAll n set = (r : ℕ) → set_of set r ≡ everyone n r

-- the set holds some of n relations, and nothing else
pub record IsSetOf (n : ℕ) (set : RelSet) : Type 0 where
  pub within : (r : ℕ) → set_of set r ≡ true → r < n
  pub some : (r : ℕ) × (set_of set r ≡ true)

-- the variables of each relation rise strictly
abbrev pub AreRising : List (List ℕ) → Type 0
AreRising vs = All (λ variables. IsStrictlyIncreasing variables) vs

-- the variables of a query's relations
pub record IsGraph (vs : List (List ℕ)) : Type 0 where
  pub some : 1 ≤ length vs
  pub few : length vs ≤ MAX_RELATIONS
  pub rising : AreRising vs
  pub short : All (λ variables. length variables ≤ MAX_COLUMNS) vs

-- the variables of relation r
abbrev pub vars_of : List (List ℕ) → ℕ → List ℕ
vars_of vs r = slice_index_or vs r []

-- relation r has the variable v
abbrev pub has_variable : List (List ℕ) → ℕ → ℕ → Bool
has_variable vs v r = has v (vars_of vs r)

-- what is listed once the links are, the last one first
abbrev pub listed_by : List ℕ → List Link → List ℕ
listed_by listed [] = listed
listed_by listed (l ∷ links) = listed_by (l.child ∷ listed) links

-- each link's child is one of n relations and new, and its parent is listed before it
abbrev pub Extends : ℕ → List ℕ → List Link → Type 0
Extends n listed [] = Unit {0}
Extends n listed (l ∷ links) =
    (l.child < n) × (has l.child listed ≡ false) × (has l.parent listed ≡ true) × Extends n (l.child ∷ listed) links

-- a list with parents: each of n relations once, and each after the first with a parent before it
pub record HasParents (n root : ℕ) (links : List Link) : Type 0 where
  pub first : root < n
  pub extends : Extends n (root ∷ []) links
  pub all : (r : ℕ) → r < n → has r (listed_by (root ∷ []) links) ≡ true

-- one of the listed relations has the variable
abbrev pub is_met : List (List ℕ) → List ℕ → ℕ → Bool
is_met vs listed v = list_any (has_variable vs v) listed

-- running intersection: the variables that a child shares with any relation listed before it lie in its parent
abbrev pub Runs : List (List ℕ) → List ℕ → List Link → Type 0
Runs vs listed [] = Unit {0}
Runs vs listed (l ∷ links) =
    ((v : ℕ) → has v (vars_of vs l.child) ≡ true → is_met vs listed v ≡ true → has v (vars_of vs l.parent) ≡ true)
    × Runs vs (l.child ∷ listed) links

-- a join list: a list with parents and running intersection
pub record IsJoinList (vs : List (List ℕ)) (root : ℕ) (links : List Link) : Type 0 where
  pub parents : HasParents (length vs) root links
  pub runs : Runs vs (root ∷ []) links

-- there is a join list
abbrev pub IsAcyclic : List (List ℕ) → Type 0
IsAcyclic vs = (root : ℕ) × (links : List Link) × IsJoinList vs root links

-- the list's first relations are those of the set
pub record BeginsWith (set : ℕ → Bool) (root : ℕ) (links : List Link) : Type 0 where
  pub front : List Link
  pub back : List Link
  pub joined : links ≡ front ++ back
  pub same : (r : ℕ) → has r (listed_by (root ∷ []) front) ≡ set r
