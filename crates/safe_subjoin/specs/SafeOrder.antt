-- What `safe_set`, `safe_order` and `safe_lists` promise.
use Rattle.std.specs.Prelude.{◌≡◌, ℕ, ◌+◌, ◌<◌, ◌≤◌, Bool, List, [], ◌∷◌, length, map, take, Option, MatchOption, slice_index_or}
use Rattle.join_graph.specs.declared.tree.Link.{Link}
use Rattle.join_graph.specs.declared.tree.Tree.{Tree}
use Rattle.join_graph.specs.JoinList.{everyone, BeginsWith, IsJoinList}
use Rattle.rpt_base.specs.Lists.{has}
use Rattle.join_graph.specs.Weights.{weight_of}
use Rattle.join_graph.specs.SafeSet.{IsSafe}
use Rattle.largest_root.specs.Greedy.{IsGreedyList}
use Rattle.safe_subjoin.specs.declared.errors.OrderError.{OrderError}
use Rattle.safe_subjoin.specs.declared.errors.OrderError.TheVariants as order_error
use Rattle.safe_subjoin.specs.declared.errors.SetError.{SetError}
use Rattle.safe_subjoin.specs.declared.errors.SetError.TheVariants as set_error

-- the tree is a join list that begins with the set: the greedy list for the set and then all relations, each of size 0
pub record IsSafeList (vs : List (List ℕ)) (set : ℕ → Bool) (t : Tree) : Type 0 where
  pub greedy : IsGreedyList (weight_of vs) (λ r. 0) set (everyone (length vs) ∷ []) t.root t.links
  pub joins : IsJoinList vs t.root t.links
  pub begins : BeginsWith set t.root t.links

-- what a set's refusal says
abbrev pub IsSetRefused : List (List ℕ) → (ℕ → Bool) → SetError → Type 0
IsSetRefused vs set set_error.Unsafe = IsSafe vs set → ⊥
IsSetRefused vs set set_error.Memory = Unit {0}

-- the order has each of n relations once
pub record IsOrder (n : ℕ) (order : List ℕ) : Type 0 where
  pub count : length order ≡ n
  pub all : (r : ℕ) → has r order ≡ everyone n r

-- the set of the order's first k relations
abbrev pub first_of : List ℕ → ℕ → ℕ → Bool
first_of order k r = has r (take k order)

-- the relations of a list with parents, in order
abbrev pub sequence : ℕ → List Link → List ℕ
sequence root links = root ∷ map (λ (l : Link). l.child) links

-- the first k relations are no safe set, and all fewer of them are one
pub record IsFirstUnsafe (vs : List (List ℕ)) (order : List ℕ) (k : ℕ) : Type 0 where
  pub some : 1 ≤ k
  pub within : k ≤ length vs
  pub unsafe : IsSafe vs (first_of order k) → ⊥
  pub before : (i : ℕ) → 1 ≤ i → i < k → IsSafe vs (first_of order i)

-- what an order's refusal says
abbrev pub IsOrderRefused : List (List ℕ) → List ℕ → OrderError → Type 0
IsOrderRefused vs order (order_error.Unsafe prefix) = IsFirstUnsafe vs order prefix
IsOrderRefused vs order order_error.Memory = Unit {0}

-- a join list for each prefix of the order
pub record AreSafeLists (vs : List (List ℕ)) (order : List ℕ) (ts : List Tree) : Type 0 where
  pub count : length ts ≡ length vs
  pub each : (k : ℕ) (d : Tree) → k < length ts → IsSafeList vs (first_of order (k + 1)) (slice_index_or ts k d)

-- a join list that begins with the set, where the set is safe
abbrev pub IsListOf : List (List ℕ) → (ℕ → Bool) → Option Tree → Type 0
IsListOf vs set list = MatchOption list (IsSafe vs set → ⊥) (λ t. IsSafeList vs set t)

-- a join list for each prefix of the order that is safe, and none for the others
pub record AreListsOfPrefixes (vs : List (List ℕ)) (order : List ℕ) (lists : List (Option Tree)) : Type 0 where
  pub count : length lists ≡ length vs
  pub each : (k : ℕ) (d : Option Tree) → k < length lists → IsListOf vs (first_of order (k + 1)) (slice_index_or lists k d)
