-- There is one join list that `safe_set` may give for a set, and one list of them for the prefixes of an order.
use Rattle.std.proofs.Common.{◌≡◌, ℕ, ◌+◌, ◌<◌, Bool, List, [], ◌∷◌, length, get_or, Option, Some, None, refl, sym, ap, ◌∙◌, inl, inr, ◌⊎◌, arith}
use Rattle.std.proofs.lemmas.Bool.{cases_order}
use Rattle.std.proofs.lemmas.List.{ext_get_or}
use Rattle.join_graph.specs.declared.tree.Tree.{Tree}
use Rattle.join_graph.specs.JoinList.{everyone}
use Rattle.join_graph.specs.Weights.{weight_of}
use Rattle.largest_root.proofs.OneList.{one-list}
use Rattle.safe_subjoin.specs.SafeOrder.{AreListsOfPrefixes, IsFirstUnsafe, IsListOf, IsSafeList, first_of}

pub one-safe_list : (vs : List (List ℕ)) (set : ℕ → Bool) (s t : Tree) → IsSafeList vs set s → IsSafeList vs set t → s ≡ t
one-safe_list vs set s t h k =
    let same : (s.root ≡ t.root) × (s.links ≡ t.links) =
    one-list (weight_of vs) (λ r. 0) set (everyone (length vs) ∷ []) s.root t.root s.links t.links h.greedy k.greedy in
    λ i. record { root = same.0 i; links = same.1 i }

-- one list, or none, may stand for a set
one-list_of : (vs : List (List ℕ)) (set : ℕ → Bool) (a b : Option Tree) → IsListOf vs set a → IsListOf vs set b → a ≡ b
one-list_of vs set None None h k = refl
one-list_of vs set None (Some t) h k = absurd (h (t.root, t.links, k.joins, k.begins))
one-list_of vs set (Some s) None h k = absurd (k (s.root, s.links, h.joins, h.begins))
one-list_of vs set (Some s) (Some t) h k = ap Some (one-safe_list vs set s t h k)

-- there is one list of them for the prefixes of an order
pub one-lists : (vs : List (List ℕ)) (order : List ℕ) (a b : List (Option Tree)) → AreListsOfPrefixes vs order a → AreListsOfPrefixes vs order b → a ≡ b
one-lists vs order a b h k =
    ext_get_or None a b (h.count ∙ sym k.count)
    (λ i lt. one-list_of vs (first_of order (i + 1)) (get_or a i None) (get_or b i None) (h.each i None lt) (k.each i None (omega (arith, h.count, k.count))))

-- one prefix is the first that is unsafe
pub one-first : (vs : List (List ℕ)) (order : List ℕ) (a b : ℕ) → IsFirstUnsafe vs order a → IsFirstUnsafe vs order b → a ≡ b
one-first vs order a b h k = by (cases_order a b)
  where
    by : (a ≡ b) ⊎ ((a < b) ⊎ (b < a)) → a ≡ b
    by (inl e) = e
    by (inr (inl l)) = absurd (h.unsafe (k.before a h.some l))
    by (inr (inr l)) = absurd (k.unsafe (h.before b k.some l))
