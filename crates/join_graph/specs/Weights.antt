-- What two relations share, and what a list with parents weighs.
use Rattle.std.specs.Prelude.{◌≡◌, ℕ, ◌+◌, ◌-◌, ◌≤◌, ◌==◌, List, [], ◌∷◌, count_by, length, sum_by}
use Rattle.std.specs.List.{concat, filter}
use Rattle.std.specs.Set.{unique_keys}
use Rattle.join_graph.specs.declared.tree.Link.{Link}
use Rattle.join_graph.specs.JoinList.{vars_of, HasParents}
use Rattle.rpt_base.specs.Lists.{has}

-- the variables that i and j both have, in i's order
abbrev pub shared_of : List (List ℕ) → ℕ → ℕ → List ℕ
shared_of vs i j = filter (λ v. has v (vars_of vs j)) (vars_of vs i)

-- the weight of the pair: how many variables i and j both have
abbrev pub weight_of : List (List ℕ) → ℕ → ℕ → ℕ
weight_of vs i j = length (shared_of vs i j)

-- how many relations have the variable
abbrev pub holders : List (List ℕ) → ℕ → ℕ
holders vs v = count_by (has v) vs

-- each variable once
abbrev pub variables : List (List ℕ) → List ℕ
variables vs = unique_keys (λ x y. x == y) (concat vs)

-- over the variables, the sum of the number of relations that have it, less 1
abbrev pub needed_of : List (List ℕ) → ℕ
needed_of vs = sum_by (λ v. holders vs v - 1) (variables vs)

-- the sum of the links' weights
abbrev pub total : (ℕ → ℕ → ℕ) → List Link → ℕ
total weight [] = 0
total weight (l ∷ links) = weight l.child l.parent + total weight links

-- the greatest weight of a list with parents
pub record IsBest (n : ℕ) (weight : ℕ → ℕ → ℕ) (best : ℕ) : Type 0 where
  pub root : ℕ
  pub links : List Link
  pub parents : HasParents n root links
  pub has_it : total weight links ≡ best
  pub greatest : (r : ℕ) (ls : List Link) → HasParents n r ls → total weight ls ≤ best
