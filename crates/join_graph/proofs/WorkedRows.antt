-- Graphs worked by hand.
use Rattle.std.proofs.Common.{◌≡◌, ℕ, true, false, List, [], ◌∷◌, refl}
use Rattle.join_graph.specs.declared.tree.Link.{Link}
use Rattle.join_graph.specs.JoinList.{IsAcyclic, IsGraph}
use Rattle.join_graph.specs.Weights.{weight_of, shared_of, needed_of, total}
use Rattle.join_graph.proofs.JoinChecks.{is_graph-holds, has_parents, is_join_list, is_join_list-holds}

abbrev pub link : ℕ → ℕ → Link
link child parent = record { child = child; parent = parent }

-- three relations, each two of which share a variable of their own
abbrev pub triangle : List (List ℕ)
triangle = (0 ∷ 1 ∷ []) ∷ (1 ∷ 2 ∷ []) ∷ (0 ∷ 2 ∷ []) ∷ []

pub triangle-graph : IsGraph triangle
triangle-graph = is_graph-holds triangle refl

-- a list with parents has two of the three pairs, and 2 of the 3 that are needed
abbrev pub triangle_list : List Link
triangle_list = link 1 0 ∷ link 2 0 ∷ []

triangle-parents : has_parents 3 0 triangle_list ≡ true
triangle-parents = refl

triangle-needed : needed_of triangle ≡ 3
triangle-needed = refl

triangle-total : total (weight_of triangle) triangle_list ≡ 2
triangle-total = refl

triangle-joins : is_join_list triangle 0 triangle_list ≡ false
triangle-joins = refl

-- a, b and c as in the triangle, and u with all three variables
abbrev pub covered : List (List ℕ)
covered = (0 ∷ 1 ∷ []) ∷ (1 ∷ 2 ∷ []) ∷ (0 ∷ 2 ∷ []) ∷ (0 ∷ 1 ∷ 2 ∷ []) ∷ []

pub covered-graph : IsGraph covered
covered-graph = is_graph-holds covered refl

-- a; u below a, b below u, c below u: it weighs the 6 that are needed
abbrev pub covered_list : List Link
covered_list = link 3 0 ∷ link 1 3 ∷ link 2 3 ∷ []

covered-shared : shared_of covered 3 2 ≡ 0 ∷ 2 ∷ []
covered-shared = refl

covered-needed : needed_of covered ≡ 6
covered-needed = refl

covered-total : total (weight_of covered) covered_list ≡ 6
covered-total = refl

covered-joins : is_join_list covered 0 covered_list ≡ true
covered-joins = refl

pub covered-acyclic : IsAcyclic covered
covered-acyclic = (0, covered_list, is_join_list-holds covered 0 covered_list refl)

-- a; b below a, u below a, c below u: u has b's and c's variables too, and this list weighs 5
abbrev pub pair_list : List Link
pair_list = link 1 0 ∷ link 3 0 ∷ link 2 3 ∷ []

pair-parents : has_parents 4 0 pair_list ≡ true
pair-parents = refl

pair-total : total (weight_of covered) pair_list ≡ 5
pair-total = refl

pair-joins : is_join_list covered 0 pair_list ≡ false
pair-joins = refl

-- two relations that share nothing need nothing, and any list of them is a join list
abbrev pub apart : List (List ℕ)
apart = [] ∷ (0 ∷ []) ∷ []

pub apart-graph : IsGraph apart
apart-graph = is_graph-holds apart refl

apart-needed : needed_of apart ≡ 0
apart-needed = refl

apart-joins : is_join_list apart 0 (link 1 0 ∷ []) ≡ true
apart-joins = refl

-- a variable of two relations counts once, and one of a single relation not at all
abbrev pub pair : List (List ℕ)
pair = (0 ∷ 1 ∷ []) ∷ (0 ∷ []) ∷ []

pair-needed : needed_of pair ≡ 1
pair-needed = refl
