-- How a query is answered: its tree, the order of its relations, and the join lists of the order's prefixes.
use Rattle.std.specs.Prelude.{◌≡◌, ℕ, List, Option, None, Some, length, replicate}
use Rattle.join_graph.specs.declared.tree.Tree.{Tree}
use Rattle.largest_root.specs.Greedy.{IsLargestRoot}
use Rattle.safe_subjoin.specs.SafeOrder.{AreListsOfPrefixes, sequence}
use Rattle.rpt_engine.specs.declared.planning.Plan.{Plan}

-- the order that is given, or the tree's own list
abbrev pub order_or : Option (List ℕ) → Tree → List ℕ
order_or None tree = sequence tree.root tree.links
order_or (Some order) tree = order

-- LargestRoot's tree for these sizes, the order, and a join list for each of its prefixes that is safe
pub record IsPlan (vs : List (List ℕ)) (sizes : List ℕ) (order : Option (List ℕ)) (plan : Plan) : Type 0 where
  pub tree : IsLargestRoot vs sizes plan.tree
  pub order_is : plan.order ≡ order_or order plan.tree
  pub lists : AreListsOfPrefixes vs plan.order plan.lists

-- the sizes of relations of which nothing is known
abbrev pub no_sizes : List (List ℕ) → List ℕ
no_sizes sets = replicate (length sets) 0
