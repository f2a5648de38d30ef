-- Lists of relations with parents, piece by piece.
use Rattle.std.proofs.Common.{◌≡◌, ℕ, ◌+◌, ◌-◌, ◌^◌, ◌<◌, true, false, List, [], ◌∷◌, ◌++◌, refl, sym, ap, ◌∙◌, ◌||◌, map, subst, inl, inr, eqb, arith}
use Rattle.std.specs.List.{All, list_any, sum_by}
use Rattle.std.proofs.lemmas.Bool.{eqb-true, both_ways, or_cases, lt-ltb, le-ltb, ltb-true, cases_lt, eq-eqb, ne_eqb}
use Rattle.std.proofs.lemmas.List.Sums.{sum_by-cons}
use Rattle.std.proofs.lemmas.List.Elements.{All-nil, All-cons}
use Rattle.std.proofs.lemmas.Nat.Bits.{bit_at_above, bit_at_ones, bit_at_ones_above}
use Rattle.join_graph.specs.declared.tree.Link.{Link}
use Rattle.join_graph.specs.JoinList.{set_of, everyone, listed_by, Extends, HasParents, IsSetOf}
use Rattle.rpt_base.specs.Lists.{has}
use Rattle.join_graph.specs.Weights.{total}
use Rattle.rpt_base.proofs.MemberFacts.{has-kept}

pub total-append : (w : ℕ → ℕ → ℕ) (xs ys : List Link) → total w (xs ++ ys) ≡ total w xs + total w ys
total-append w [] ys = omega arith
total-append w (l ∷ xs) ys = omega (arith, total-append w xs ys)

pub append-nil : (xs : List Link) → xs ++ [] ≡ xs
append-nil [] = refl
append-nil (l ∷ xs) = ap (λ ys. l ∷ ys) (append-nil xs)

pub listed_by-append : (listed : List ℕ) (xs ys : List Link) → listed_by listed (xs ++ ys) ≡ listed_by (listed_by listed xs) ys
listed_by-append listed [] ys = refl
listed_by-append listed (l ∷ xs) ys = listed_by-append (l.child ∷ listed) xs ys

pub listed_by-kept : (r : ℕ) (listed : List ℕ) (ls : List Link) → has r listed ≡ true → has r (listed_by listed ls) ≡ true
listed_by-kept r listed [] h = h
listed_by-kept r listed (l ∷ ls) h = listed_by-kept r (l.child ∷ listed) ls (has-kept r l.child listed h)

pub extends-front : (n : ℕ) (listed : List ℕ) (xs ys : List Link) → Extends n listed (xs ++ ys) → Extends n listed xs
extends-front n listed [] ys h = tt
extends-front n listed (l ∷ xs) ys h = (h.0, h.1, h.2, extends-front n (l.child ∷ listed) xs ys h.3)

pub extends-back : (n : ℕ) (listed : List ℕ) (xs ys : List Link) → Extends n listed (xs ++ ys) → Extends n (listed_by listed xs) ys
extends-back n listed [] ys h = h
extends-back n listed (l ∷ xs) ys h = extends-back n (l.child ∷ listed) xs ys h.3

pub extends-join : (n : ℕ) (listed : List ℕ) (xs ys : List Link) → Extends n listed xs → Extends n (listed_by listed xs) ys
    → Extends n listed (xs ++ ys)
extends-join n listed [] ys h k = k
extends-join n listed (l ∷ xs) ys h k = (h.0, h.1, h.2, extends-join n (l.child ∷ listed) xs ys h.3 k)

-- what is listed is below n
pub extends-below : (n : ℕ) (listed : List ℕ) (ls : List Link) → Extends n listed ls → ((r : ℕ) → has r listed ≡ true → r < n) → (r : ℕ)
    → has r (listed_by listed ls) ≡ true → r < n
extends-below n listed [] h below r k = below r k
extends-below n listed (l ∷ ls) h below r k =
    extends-below n (l.child ∷ listed) ls h.3 (λ i j. elim (or_cases (eqb i l.child) (has i listed) j) [ inl e ↦ subst (λ z. z < n) (sym (eqb-true i l.child e)) h.0 | inr o ↦ below i o ]) r k

pub only-root : (P : ℕ → Type 0) (root : ℕ) → P root → (r : ℕ) → has r (root ∷ []) ≡ true → P r
only-root P root h r k = elim (or_cases (eqb r root) false k) [ inl e ↦ subst P (sym (eqb-true r root e)) h | inr f ↦ absurd (both_ways false refl f) ]

pub only-more : (P : ℕ → Type 0) (c : ℕ) (listed : List ℕ) → P c → ((r : ℕ) → has r listed ≡ true → P r) → (r : ℕ)
    → has r (c ∷ listed) ≡ true → P r
only-more P c listed h rest r k = elim (or_cases (eqb r c) (has r listed) k) [ inl e ↦ subst P (sym (eqb-true r c e)) h | inr o ↦ rest r o ]

pub everyone-below : (n r : ℕ) → everyone n r ≡ true → r < n
everyone-below n r h = ltb-true r n h

-- the lowest n bits are the set of n relations
pub ones : (n m r : ℕ) → m ≡ 2 ^ n - 1 → set_of (record { 0 = m }) r ≡ everyone n r
ones n m r e = elim (cases_lt r n) [
  | inl below ↦ subst (λ z. set_of (record { 0 = z }) r ≡ everyone n r) (sym e) (eq-eqb _ 1 (bit_at_ones n r below) ∙ sym (lt-ltb r n below))
  | inr above ↦ subst (λ z. set_of (record { 0 = z }) r ≡ everyone n r) (sym e)
      (ne_eqb _ 1 (λ k. absurd (omega (arith, k, bit_at_ones_above n r above))) ∙ sym (le-ltb r n above))
]

-- a number below 2 ^ n has bits below n alone
ones-below : (n m r : ℕ) → m < 2 ^ n → set_of (record { 0 = m }) r ≡ true → r < n
ones-below n m r h k = elim (cases_lt r n) [
  | inl below ↦ below
  | inr above ↦ absurd (omega (arith, bit_at_above m n r h above, eqb-true _ 1 k))
]

-- and with a bit r it is a set of some of n relations
pub bits-set : (n m r : ℕ) → m < 2 ^ n → set_of (record { 0 = m }) r ≡ true → IsSetOf n (record { 0 = m })
bits-set n m r small member = record { within = λ q h. ones-below n m q small h; some = (r, member) }

-- the weight of the links as a sum over the list
pub total-is : (w : ℕ → ℕ → ℕ) (ls : List Link) → total w ls ≡ sum_by (λ l. w l.child l.parent) ls
total-is w [] = refl
total-is w (l ∷ ls) = ap (λ z. w l.child l.parent + z) (total-is w ls) ∙ sym (sum_by-cons (λ l. w l.child l.parent) l ls)

-- each link is between two of n relations
abbrev pub AreWithin : ℕ → List Link → Type 0
AreWithin n links = All (λ l. (l.child < n) × (l.parent < n)) links

extends-within : (n : ℕ) (listed : List ℕ) (ls : List Link) → ((r : ℕ) → has r listed ≡ true → r < n) → Extends n listed ls → AreWithin n ls
extends-within n listed [] known h = All-nil (λ l. (l.child < n) × (l.parent < n))
extends-within n listed (l ∷ ls) known h =
    All-cons (λ l. (l.child < n) × (l.parent < n)) l ls (h.0, known l.parent h.2)
    (extends-within n (l.child ∷ listed) ls (only-more (λ z. z < n) l.child listed h.0 known) h.3)

pub parents-within : (n root : ℕ) (ls : List Link) → HasParents n root ls → AreWithin n ls
parents-within n root ls h = extends-within n (root ∷ []) ls (only-root (λ z. z < n) root h.first) h.extends

pub has-children : (r : ℕ) (links : List Link) → list_any (λ l. eqb r l.child) links ≡ has r (map (λ (l : Link). l.child) links)
has-children r [] = refl
has-children r (l ∷ links) = ap (λ b. eqb r l.child || b) (has-children r links)
