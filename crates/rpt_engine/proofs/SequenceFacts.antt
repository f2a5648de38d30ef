-- The sequence of a list with parents is an order.
use Rattle.std.proofs.Common.{◌≡◌, ℕ, ◌+◌, ◌<◌, ◌≤◌, Bool, true, false, ◌||◌, List, [], ◌∷◌, length, refl, sym, ap, ◌∙◌, eqb, arith}
use Rattle.std.specs.List.{AllByRecursion, IsDistinct, list_any}
use Rattle.std.proofs.lemmas.Bool.{lt-ltb, or_parts}
use Rattle.std.proofs.lemmas.List.{length-map}
use Rattle.std.proofs.lemmas.Map.Steps.{length-le_from_distinct_below, le-length_from_below}
use Rattle.join_graph.specs.declared.tree.Link.{Link}
use Rattle.join_graph.specs.JoinList.{everyone, listed_by, Extends, HasParents}
use Rattle.rpt_base.specs.Lists.{has}
use Rattle.join_graph.proofs.ListFacts.{everyone-below, extends-below, only-root, has-children}
use Rattle.rpt_base.proofs.BoolFacts.{same_truth}
use Rattle.largest_root.proofs.ListedFacts.{has-listed_by}
use Rattle.safe_subjoin.specs.SafeOrder.{sequence}
use Rattle.rpt_base.specs.Orders.{IsOrder}
use Rattle.rpt_base.proofs.OrderFacts.{order-from_has}

length-listed : (listed : List ℕ) (links : List Link) → length (listed_by listed links) ≡ length listed + length links
length-listed listed [] = omega arith
length-listed listed (l ∷ links) = omega (arith, length-listed (l.child ∷ listed) links)

new-apart : (r : ℕ) (xs : List ℕ) → has r xs ≡ false → AllByRecursion (λ y. eqb r y ≡ false) xs
new-apart r [] h = tt
new-apart r (x ∷ xs) h = ((or_parts (eqb r x) (has r xs) h).0, new-apart r xs (or_parts (eqb r x) (has r xs) h).1)

listed-distinct : (n : ℕ) (listed : List ℕ) (links : List Link) → IsDistinct eqb listed → Extends n listed links → IsDistinct eqb (listed_by listed links)
unfolding IsDistinct
listed-distinct n listed [] apart h = apart
listed-distinct n listed (l ∷ links) apart h = listed-distinct n (l.child ∷ listed) links (new-apart l.child listed h.1, apart) h.3

has-sequence : (r root : ℕ) (links : List Link) → has r (listed_by (root ∷ []) links) ≡ has r (sequence root links)
has-sequence r root links =
    has-listed_by r (root ∷ []) links ∙ flat (eqb r root) (list_any (λ l. eqb r l.child) links) ∙ ap (λ b. eqb r root || b) (has-children r links)
  where
    flat : (a b : Bool) → ((a || false) || b) ≡ (a || b)
    flat true b = refl
    flat false b = refl

root-distinct : (root : ℕ) → IsDistinct eqb (root ∷ [])
unfolding IsDistinct
root-distinct root = (tt, tt)

-- the sequence of a list with parents is an order: it has each of n relations once
pub sequence-order : (n root : ℕ) (links : List Link) → HasParents n root links → IsOrder n (sequence root links)
sequence-order n root links h = order-from_has n (sequence root links) count (λ r. sym (has-sequence r root links) ∙ whole r)
  where
    listed : List ℕ
    listed = listed_by (root ∷ []) links

    below : (r : ℕ) → has r listed ≡ true → r < n
    below = extends-below n (root ∷ []) links h.extends (only-root (λ z. z < n) root h.first)

    whole : (r : ℕ) → has r listed ≡ everyone n r
    whole r = same_truth (has r listed) (everyone n r) (λ k. lt-ltb r n (below r k)) (λ k. h.all r (everyone-below n r k))

    count : length (sequence root links) ≡ n
    count =
        let few : length listed ≤ n = length-le_from_distinct_below listed n (listed-distinct n (root ∷ []) links (root-distinct root) h.extends) below in
        let many : n ≤ length listed = le-length_from_below listed n h.all in
        omega (arith, length-listed (root ∷ []) links, length-map links (λ (l : Link). l.child))
