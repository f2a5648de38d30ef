-- Graphs worked by hand: their greedy lists, and a graph that has no join list at all.
use Rattle.std.proofs.Common.{◌≡◌, ℕ, ◌<◌, true, List, [], ◌∷◌, get_or, refl, inr, arith}
use Rattle.rpt_base.proofs.NumberFacts.{differ}
use Rattle.join_graph.specs.JoinList.{everyone, IsAcyclic}
use Rattle.join_graph.specs.Weights.{weight_of}
use Rattle.join_graph.proofs.ListFacts.{everyone-below, only-root}
use Rattle.join_graph.proofs.WorkedRows.{link, triangle, triangle-graph, triangle_list, covered, covered_list, apart}
use Rattle.largest_root.specs.Greedy.{IsGreedyList, IsLargest}
use Rattle.largest_root.proofs.GreedyChecks.{greedy, greedy-holds, is_largest}
use Rattle.largest_root.proofs.JoinFacts.{weight_from_acyclic}

abbrev pub no_sizes : ℕ → ℕ
no_sizes r = 0

abbrev sizes : List ℕ → ℕ → ℕ
sizes xs r = get_or xs r 0

-- the triangle: b and c hang on a
triangle-first : is_largest no_sizes 3 (everyone 3) 0 ≡ true
triangle-first = refl

triangle-greedy : greedy (weight_of triangle) no_sizes 3 (everyone 3) (0 ∷ []) triangle_list ≡ true
triangle-greedy = refl

-- its greedy list weighs 2 of the 3 that are needed, and so it has no join list
least-first : IsLargest no_sizes (everyone 3) 0
least-first = (refl, λ i s. inr (refl, omega arith))

triangle-list : IsGreedyList (weight_of triangle) no_sizes (everyone 3) [] 0 triangle_list
triangle-list = (
  least-first,
  (
    triangle_list,
    [],
    refl,
    greedy-holds (weight_of triangle) no_sizes 3 (everyone 3) (everyone-below 3) (0 ∷ []) triangle_list (only-root (λ z. z < 3) 0 (omega arith)) refl,
    refl,
  ),
)

pub triangle-cyclic : IsAcyclic triangle → ⊥
triangle-cyclic a =
    differ 2 3 (omega arith) (weight_from_acyclic triangle triangle-graph.rising no_sizes 0 triangle_list triangle-list a)

-- a, b, c and u, all of one size: u below a, b below u, c below u
covered-first : is_largest no_sizes 4 (everyone 4) 0 ≡ true
covered-first = refl

covered-greedy : greedy (weight_of covered) no_sizes 4 (everyone 4) (0 ∷ []) covered_list ≡ true
covered-greedy = refl

-- where u is the largest, a, b and c hang on u, the larger first
larger-first : is_largest (sizes (1 ∷ 5 ∷ 2 ∷ 9 ∷ [])) 4 (everyone 4) 3 ≡ true
larger-first = refl

larger-greedy : greedy (weight_of covered) (sizes (1 ∷ 5 ∷ 2 ∷ 9 ∷ [])) 4 (everyone 4) (3 ∷ []) (link 1 3 ∷ link 2 3 ∷ link 0 3 ∷ []) ≡ true
larger-greedy = refl

-- a and b first, and then the rest
pair-front : greedy (weight_of covered) no_sizes 4 (everyone 2) (0 ∷ []) (link 1 0 ∷ []) ≡ true
pair-front = refl

pair-back : greedy (weight_of covered) no_sizes 4 (everyone 4) (1 ∷ 0 ∷ []) (link 3 0 ∷ link 2 3 ∷ []) ≡ true
pair-back = refl

-- two relations that share nothing
apart-greedy : greedy (weight_of apart) (sizes (2 ∷ 2 ∷ [])) 2 (everyone 2) (0 ∷ []) (link 1 0 ∷ []) ≡ true
apart-greedy = refl
