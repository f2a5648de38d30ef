-- Sets of relations worked by hand.
use Rattle.std.proofs.Common.{◌≡◌, ℕ, ◌<◌, Bool, true, List, [], ◌∷◌, refl, inr, arith}
use Rattle.join_graph.specs.declared.tree.Link.{Link}
use Rattle.join_graph.specs.JoinList.{everyone}
use Rattle.rpt_base.specs.Lists.{has}
use Rattle.rpt_base.proofs.NumberFacts.{differ}
use Rattle.join_graph.specs.SafeSet.{IsSafe}
use Rattle.join_graph.specs.Weights.{weight_of, total}
use Rattle.join_graph.proofs.JoinChecks.{is_join_list-holds}
use Rattle.join_graph.proofs.ListFacts.{everyone-below, only-more, only-root}
use Rattle.join_graph.proofs.WorkedRows.{link, covered, covered-graph, pair_list}
use Rattle.largest_root.specs.Greedy.{IsLargest}
use Rattle.largest_root.proofs.GreedyChecks.{greedy, greedy-holds}
use Rattle.largest_root.proofs.JoinFacts.{weight_from_safe}
use Rattle.largest_root.proofs.WorkedRows.{no_sizes}
use Rattle.safe_subjoin.specs.SafeOrder.{first_of, sequence}
use Rattle.safe_subjoin.proofs.PrefixFacts.{prefix-safe}

least-first : (set : ℕ → Bool) → set 0 ≡ true → IsLargest no_sizes set 0
least-first set h = (h, λ i s. inr (refl, omega arith))

-- a and b of a, b, c and u: the tree that lists them first weighs 5 of the 6 that are needed
pub pair-unsafe : IsSafe covered (everyone 2) → ⊥
pair-unsafe safe =
    let below : (r : ℕ) → everyone 2 r ≡ true → r < 4 = λ r h. omega (arith, everyone-below 2 r h) in
    differ 5 6 (omega arith) (weight_from_safe covered covered-graph.rising no_sizes 0 pair_list (everyone 2) below (
      least-first (everyone 2) refl,
      (
        link 1 0 ∷ [],
        link 3 0 ∷ link 2 3 ∷ [],
        refl,
        greedy-holds (weight_of covered) no_sizes 4 (everyone 2) below (0 ∷ []) (link 1 0 ∷ []) (only-root (λ z. z < 4) 0 (omega arith)) refl,
        (
          link 3 0 ∷ link 2 3 ∷ [],
          [],
          refl,
          greedy-holds (weight_of covered) no_sizes 4 (everyone 4) (everyone-below 4) (1 ∷ 0 ∷ []) (link 3 0 ∷ link 2 3 ∷ []) (only-more (λ z. z < 4) 1 (0 ∷ []) (omega arith) (only-root (λ z. z < 4) 0 (omega arith))) refl,
          refl,
        ),
      ),
    ) safe)

-- a, b and c: c shares a variable with a and another one with b, and no relation before it has both
abbrev three_list : List Link
three_list = link 1 0 ∷ link 2 0 ∷ link 3 0 ∷ []

three-total : total (weight_of covered) three_list ≡ 4
three-total = refl

pub three-unsafe : IsSafe covered (everyone 3) → ⊥
three-unsafe safe =
    let below : (r : ℕ) → everyone 3 r ≡ true → r < 4 = λ r h. omega (arith, everyone-below 3 r h) in
    differ 4 6 (omega arith) (weight_from_safe covered covered-graph.rising no_sizes 0 three_list (everyone 3) below (
      least-first (everyone 3) refl,
      (
        link 1 0 ∷ link 2 0 ∷ [],
        link 3 0 ∷ [],
        refl,
        greedy-holds (weight_of covered) no_sizes 4 (everyone 3) below (0 ∷ []) (link 1 0 ∷ link 2 0 ∷ []) (only-root (λ z. z < 4) 0 (omega arith)) refl,
        (
          link 3 0 ∷ [],
          [],
          refl,
          greedy-holds (weight_of covered) no_sizes 4 (everyone 4) (everyone-below 4) (2 ∷ 1 ∷ 0 ∷ []) (link 3 0 ∷ [])
              (only-more (λ z. z < 4) 2 (1 ∷ 0 ∷ []) (omega arith) (only-more (λ z. z < 4) 1 (0 ∷ []) (omega arith) (only-root (λ z. z < 4) 0 (omega arith)))) refl,
          refl,
        ),
      ),
    ) safe)

-- u, a, b, c: each prefix is safe
abbrev star_list : List Link
star_list = link 0 3 ∷ link 1 3 ∷ link 2 3 ∷ []

star-sequence : sequence 3 star_list ≡ 3 ∷ 0 ∷ 1 ∷ 2 ∷ []
star-sequence = refl

star-first : greedy (weight_of covered) no_sizes 4 (λ r. has r (3 ∷ [])) (3 ∷ []) [] ≡ true
star-first = refl

star-greedy : greedy (weight_of covered) no_sizes 4 (everyone 4) (3 ∷ []) star_list ≡ true
star-greedy = refl

pub star-safe : IsSafe covered (first_of (3 ∷ 0 ∷ 1 ∷ 2 ∷ []) 1)
star-safe = prefix-safe covered 3 star_list (is_join_list-holds covered 3 star_list refl) 1 (omega arith)

-- a and u: b and c hang on u
outer-front : greedy (weight_of covered) no_sizes 4 (λ r. has r (0 ∷ 3 ∷ [])) (0 ∷ []) (link 3 0 ∷ []) ≡ true
outer-front = refl

outer-back : greedy (weight_of covered) no_sizes 4 (everyone 4) (3 ∷ 0 ∷ []) (link 1 3 ∷ link 2 3 ∷ []) ≡ true
outer-back = refl
