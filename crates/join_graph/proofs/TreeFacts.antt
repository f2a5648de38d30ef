-- What a tree of a graph weighs, link after link, and what its weight says.
use Rattle.std.proofs.Common.{◌≡◌, ℕ, ◌+◌, ◌<◌, ◌≤◌, ◌↔◌, List, length, get_or, take, sym, ap, ◌∙◌, subst, arith}
use Rattle.std.specs.List.{sum_by}
use Rattle.std.proofs.lemmas.List.{take_all}
use Rattle.std.proofs.lemmas.List.Sums.{sum_by_more_le}
use Rattle.join_graph.specs.declared.tree.Link.{Link}
use Rattle.join_graph.specs.JoinList.{HasParents, IsGraph, IsJoinList}
use Rattle.join_graph.specs.Weights.{needed_of, total, weight_of}
use Rattle.join_graph.proofs.ListFacts.{AreWithin, parents-within, total-is}
use Rattle.join_graph.proofs.NeededFacts.{total-le-needed, total_of_runs, runs_from_total}
use Rattle.join_graph.proofs.NeededSteps.{needed_of-le}
use Rattle.join_graph.proofs.WeightFacts.{distinct_vars}

module _ (vs : List (List ℕ)) (graph : IsGraph vs) (root : ℕ) (links : List Link) (parents : HasParents (length vs) root links) where
  -- a tree weighs at most what is needed
  pub tree-le : total (weight_of vs) links ≤ needed_of vs
  tree-le = total-le-needed vs (distinct_vars vs graph.rising) root links parents

  -- and just that exactly where it is a join list
  pub tree-joins : (total (weight_of vs) links ≡ needed_of vs) ↔ IsJoinList vs root links
  tree-joins = (
    (λ e. record { parents = parents; runs = runs_from_total vs (distinct_vars vs graph.rising) root links parents e }),
    (λ joins. total_of_runs vs (distinct_vars vs graph.rising) root links parents joins.runs),
  )

  module _ (xs : List Link) (same : xs ≡ links) (i : ℕ) where
    -- each link is between two relations
    pub tree-link : (d : Link) → i < length xs → ((get_or xs i d).child < length vs) × ((get_or xs i d).parent < length vs)
    tree-link d inside = subst (λ z. AreWithin (length vs) z) (sym same) (parents-within (length vs) root links parents) i d inside

    -- the weight so far and one more link's fit a number of 32 bits
    pub tree-room : (d : Link) → i < length xs → (sum weight : ℕ) → sum ≡ sum_by (λ l. weight_of vs l.child l.parent) (take i links)
        → weight ≡ weight_of vs (get_or xs i d).child (get_or xs i d).parent → sum + weight ≤ 1024
    tree-room d inside sum weight so_far next =
        let f : Link → ℕ = λ l. weight_of vs l.child l.parent in
        let some : sum_by f (take i xs) + f (get_or xs i d) ≤ sum_by f xs = sum_by_more_le f xs i d inside in
        let front : sum_by f (take i links) ≡ sum_by f (take i xs) = ap (λ z. sum_by f (take i z)) (sym same) in
        let whole : sum_by f xs ≡ total (weight_of vs) links = ap (sum_by f) same ∙ sym (total-is (weight_of vs) links) in
        omega (arith, some, front, whole, so_far, next, tree-le, needed_of-le vs graph)

    -- the weight of all links
    pub tree-sum : length xs ≤ i → (sum : ℕ) → sum ≡ sum_by (λ l. weight_of vs l.child l.parent) (take i links)
        → sum ≡ total (weight_of vs) links
    tree-sum past sum so_far =
        let f : Link → ℕ = λ l. weight_of vs l.child l.parent in
        so_far ∙ ap (sum_by f) (take_all i links (subst (λ z. length z ≤ i) same past)) ∙ sym (total-is (weight_of vs) links)
