-- Each set begins a join list or is unsafe, and so does each prefix of an order.
use Rattle.std.proofs.Common.{◌≡◌, ℕ, zero, suc, ◌+◌, ◌<◌, ◌≤◌, ◌⊎◌, Bool, true, List, [], ◌∷◌, ◌++◌, length, get_or, Option, Some, None, length-append, refl, subst, inl, inr, arith}
use Rattle.std.proofs.lemmas.Bool.{cases_eq, cases_lt}
use Rattle.join_graph.specs.declared.tree.Link.{Link}
use Rattle.join_graph.specs.declared.tree.Tree.{Tree}
use Rattle.join_graph.specs.JoinList.{AreRising, everyone}
use Rattle.join_graph.specs.SafeSet.{IsSafe}
use Rattle.join_graph.specs.Weights.{needed_of, total, weight_of}
use Rattle.join_graph.proofs.ListFacts.{everyone-below}
use Rattle.join_graph.proofs.NeededFacts.{runs_from_total}
use Rattle.join_graph.proofs.WeightFacts.{distinct_vars}
use Rattle.largest_root.specs.Greedy.{IsGreedyList}
use Rattle.largest_root.proofs.GreatestFacts.{greedy_parents_from}
use Rattle.largest_root.proofs.SomeList.{list-there}
use Rattle.safe_subjoin.specs.SafeOrder.{AreListsOfPrefixes, IsFirstUnsafe, IsListOf, IsSafeList, first_of}
use Rattle.rpt_base.specs.Orders.{IsOrder}
use Rattle.safe_subjoin.proofs.OrderFacts.{each-push, prefix-below, prefix-last}
use Rattle.safe_subjoin.proofs.SetFacts.{list-safe, list-unsafe}

module _ (vs : List (List ℕ)) (rising : AreRising vs) where
  -- a set that is not empty begins a join list or is unsafe
  safe-or-not : (set : ℕ → Bool) → ((r : ℕ) → set r ≡ true → r < length vs) → (r : ℕ) → set r ≡ true
      → ((t : Tree) × IsSafeList vs set t) ⊎ (IsSafe vs set → ⊥)
  safe-or-not set below r inside =
      by (list-there (weight_of vs) (λ r. 0) (length vs) set (everyone (length vs) ∷ []) (below, (everyone-below (length vs), tt)) r inside)
    where
      by : ((root : ℕ) × (links : List Link) × IsGreedyList (weight_of vs) (λ r. 0) set (everyone (length vs) ∷ []) root links)
          → ((t : Tree) × IsSafeList vs set t) ⊎ (IsSafe vs set → ⊥)
      by (root, links, g) = elim (cases_eq (total (weight_of vs) links) (needed_of vs)) [
        | inl e ↦
            let parents = greedy_parents_from (weight_of vs) (λ r. 0) (length vs) root links set below g in
            inl (
              record { root = root; links = links },
              list-safe vs rising set below (record { root = root; links = links }) g (record { parents = parents; runs = runs_from_total vs (distinct_vars vs rising) root links parents e }),
            )
        | inr differ ↦ inr (list-unsafe vs rising set below (record { root = root; links = links }) g (total (weight_of vs) links) (needed_of vs) refl refl differ)
      ]

  module _ (order : List ℕ) (is_order : IsOrder (length vs) order) where
    prefix-safe_or_not : (i : ℕ) → i < length vs → ((t : Tree) × IsSafeList vs (first_of order (i + 1)) t) ⊎ (IsSafe vs (first_of order (i + 1)) → ⊥)
    prefix-safe_or_not i inside =
        safe-or-not (first_of order (i + 1)) (prefix-below (length vs) order is_order (i + 1)) (get_or order i 0)
        (prefix-last (length vs) order is_order i (omega (arith, is_order.count)))

    prefix-list : (i : ℕ) → i < length vs → (list : Option Tree) × IsListOf vs (first_of order (i + 1)) list
    prefix-list i inside = elim (prefix-safe_or_not i inside) [ inl t ↦ (Some t.0, t.1) | inr none ↦ (None, none) ]

    -- the lists of the first i prefixes
    record AreFirstLists (i : ℕ) : Type 0 where
      pub lists : List (Option Tree)
      pub count : length lists ≡ i
      pub each : (k : ℕ) (d : Option Tree) → k < length lists → IsListOf vs (first_of order (k + 1)) (get_or lists k d)

    first-lists : (i : ℕ) → i ≤ length vs → AreFirstLists i
    first-lists zero few = record { lists = []; count = refl; each = λ k d lt. absurd (omega arith) }
    first-lists (suc i) few =
        let before = first-lists i (omega arith) in
        let next = prefix-list i (omega arith) in
        record {
          lists = before.lists ++ next.0 ∷ [];
          count = omega (arith, length-append before.lists (next.0 ∷ []), before.count);
          each = each-push (λ k list. IsListOf vs (first_of order (k + 1)) list) before.lists (before.lists ++ next.0 ∷ []) next.0 i before.count refl before.each next.1;
        }

    -- there are lists for the prefixes of an order
    pub lists-there : (lists : List (Option Tree)) × AreListsOfPrefixes vs order lists
    lists-there = let all = first-lists (length vs) (omega arith) in (all.lists, record { count = all.count; each = all.each })

    -- the first prefixes are safe, or there is a first that is not
    first-there : (m : ℕ) → m ≤ length vs → ((k : ℕ) → 1 ≤ k → k ≤ m → IsSafe vs (first_of order k)) ⊎ ((k : ℕ) × IsFirstUnsafe vs order k)
    first-there zero few = inl (λ k low high. absurd (omega arith))
    first-there (suc m) few = by (first-there m (omega arith)) (prefix-safe_or_not m (omega arith))
      where
        Safe : ℕ → Type 0
        Safe k = IsSafe vs (first_of order k)

        by : ((k : ℕ) → 1 ≤ k → k ≤ m → IsSafe vs (first_of order k)) ⊎ ((k : ℕ) × IsFirstUnsafe vs order k)
            → ((t : Tree) × IsSafeList vs (first_of order (m + 1)) t) ⊎ (IsSafe vs (first_of order (m + 1)) → ⊥)
            → ((k : ℕ) → 1 ≤ k → k ≤ suc m → IsSafe vs (first_of order k)) ⊎ ((k : ℕ) × IsFirstUnsafe vs order k)
        by (inr first) _ = inr first
        by (inl safe) (inr none) = inr (m + 1, record { some = omega arith; within = omega arith; unsafe = none; before = λ i low high. safe i low (omega arith) })
        by (inl safe) (inl (t, s)) = inl (λ k low high. elim (cases_lt k (suc m)) [
          | inl less ↦ safe k low (omega arith)
          | inr more ↦ let e : m + 1 ≡ k = omega arith in subst Safe e (t.root, t.links, s.joins, s.begins)
        ])

    -- all prefixes are safe, or there is a first that is not
    pub all-or-first : ((k : ℕ) → 1 ≤ k → k ≤ length vs → IsSafe vs (first_of order k)) ⊎ ((k : ℕ) × IsFirstUnsafe vs order k)
    all-or-first = first-there (length vs) (omega arith)
