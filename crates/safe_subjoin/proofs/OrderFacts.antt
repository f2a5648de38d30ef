-- The prefixes of an order.
use Rattle.std.proofs.Common.{◌≡◌, ℕ, zero, suc, ◌+◌, ◌-◌, ◌*◌, ◌%◌, ◌^◌, ◌<◌, ◌≤◌, true, false, ◌||◌, List, [], ◌∷◌, ◌++◌, length, get_or, take, bit_or, refl, sym, ap, ◌∙◌, subst, inl, inr, eqb, arith}
use mir.Syntax.{w32}
use Rattle.std.specs.List.{All}
use Rattle.std.proofs.lemmas.List.{get_or_append_left, get_or_push, length-append}
use Rattle.std.proofs.lemmas.Nat.Bits.{bit_at_set_same, bit_at_set_other}
use Rattle.std.proofs.lemmas.Bool.{both_ways, cases_eq, cases_lt, ne_eqb, or_cases, or_left, or_right, eq-eqb, ltb-true}
use Rattle.std.proofs.lemmas.List.Folds.{list_any_more, list_any_at}
use Rattle.rpt_base.specs.declared.sets.RelSet.{RelSet}
use Rattle.join_graph.specs.declared.tree.Tree.{Tree}
use Rattle.join_graph.specs.JoinList.{set_of, IsSetOf}
use Rattle.rpt_base.specs.Lists.{has}
use Rattle.join_graph.specs.SafeSet.{IsSafe}
use Rattle.safe_subjoin.specs.SafeOrder.{IsSafeList, first_of}
use Rattle.rpt_base.specs.Orders.{IsOrder}
use Rattle.rpt_base.proofs.OrderFacts.{order-has}

-- a set with one more bit
pub one-more : (n k q : ℕ) → k < 32 → set_of (record { 0 = bit_or n (1 * 2 ^ k % 4294967296) }) q ≡ (eqb q k || set_of (record { 0 = n }) q)
one-more n k q l =
    elim (cases_eq q k) [
      | inl here ↦
          subst (λ z. set_of (record { 0 = bit_or n (1 * 2 ^ k % 4294967296) }) z ≡ (eqb z k || set_of (record { 0 = n }) z)) (sym here)
          (eq-eqb _ 1 (bit_at_set_same w32 n k l) ∙ sym (or_left (eqb k k) _ (eq-eqb k k refl)))
      | inr there ↦ ap (λ z. eqb z 1) (bit_at_set_other w32 n k l q there) ∙ ap (λ b. b || set_of (record { 0 = n }) q) (sym (ne_eqb q k there))
    ]

take-has : (q i : ℕ) (xs : List ℕ) → has q (take i xs) ≡ true → has q xs ≡ true
take-has q zero xs h = absurd (both_ways false refl h)
take-has q (suc i) [] h = h
take-has q (suc i) (x ∷ xs) h =
    elim (or_cases (eqb q x) (has q (take i xs)) h) [
      | inl here ↦ or_left (eqb q x) (has q xs) here
      | inr there ↦ or_right (eqb q x) (has q xs) (take-has q i xs there)
    ]

module _ (n : ℕ) (order : List ℕ) (is_order : IsOrder n order) where
  -- an order's relations are few enough for a set's bits
  pub order-small : n ≤ 16 → All (λ r. r < 32) order
  order-small few i d l =
      let below : get_or order i d < n =
      ltb-true _ n (sym (order-has n order is_order (get_or order i d)) ∙ list_any_at (λ y. eqb (get_or order i d) y) order i d l (eq-eqb _ _ refl)) in
      omega arith

  -- a prefix has relations of the order alone
  pub prefix-below : (k q : ℕ) → first_of order k q ≡ true → q < n
  prefix-below k q h = ltb-true q n (sym (order-has n order is_order q) ∙ take-has q k order h)

  -- and has the last that was put to it
  pub prefix-last : (i : ℕ) → i < length order → first_of order (i + 1) (get_or order i 0) ≡ true
  prefix-last i inside =
      list_any_more (λ y. eqb (get_or order i 0) y) order i 0 inside ∙ or_right _ (eqb (get_or order i 0) (get_or order i 0)) (eq-eqb _ _ refl)

  module _ (i : ℕ) (t : RelSet) (same : (q : ℕ) → set_of t q ≡ first_of order (i + 1) q) where
    -- a prefix that is not empty is a set of some relations
    pub prefix-set : i < length order → IsSetOf n t
    prefix-set inside = record {
      within = λ q h. prefix-below (i + 1) q (sym (same q) ∙ h);
      some = (get_or order i 0, same (get_or order i 0) ∙ prefix-last i inside);
    }

-- the set of a prefix is the prefix
pub same-set : (order : List ℕ) (i : ℕ) (t : RelSet) → ((q : ℕ) → set_of t q ≡ first_of order i q) → set_of t ≡ first_of order i
same-set order i t same = λ k q. same q k

-- what holds at each place of a list holds there with one item more
pub each-push : {X : Type 0} (P : ℕ → X → Type 0) (xs ys : List X) (x : X) (i : ℕ) → length xs ≡ i → ys ≡ xs ++ x ∷ []
    → ((k : ℕ) (d : X) → k < length xs → P k (get_or xs k d)) → P i x → (k : ℕ) (d : X) → k < length ys → P k (get_or ys k d)
each-push {X} P xs ys x i many joined each last k d l =
    let count : length ys ≡ i + 1 = ap length joined ∙ length-append xs (x ∷ []) ∙ ap (λ z. z + 1) many in
    elim (cases_lt k i) [
      | inl less ↦
          subst (λ z. P k (get_or z k d)) (sym joined)
          (subst (P k) (sym (get_or_append_left xs (x ∷ []) d k (omega arith))) (each k d (omega arith)))
      | inr more ↦
          let here : k ≡ i = omega arith in
          subst (λ z. P k (get_or z k d)) (sym joined)
          (subst (P k) (sym (get_or_push xs x d k (many ∙ sym here))) (subst (λ z. P z x) (sym here) last))
    ]

-- the prefixes so far are safe
pub safe-below : (vs : List (List ℕ)) (order : List ℕ) (ts : List Tree) (i : ℕ) → length ts ≡ i
    → ((k : ℕ) (d : Tree) → k < length ts → IsSafeList vs (first_of order (k + 1)) (get_or ts k d)) → (k : ℕ) → 1 ≤ k → k < i + 1
    → IsSafe vs (first_of order k)
safe-below vs order [] i e h k low high = absurd (omega arith)
safe-below vs order (t ∷ ts) i e h k low high =
    let s : IsSafeList vs (first_of order (k - 1 + 1)) (get_or (t ∷ ts) (k - 1) t) = h (k - 1) t (omega arith) in
    let same : k - 1 + 1 ≡ k = omega arith in
    subst (λ z. IsSafe vs (first_of order z)) same ((get_or (t ∷ ts) (k - 1) t).root, (get_or (t ∷ ts) (k - 1) t).links, s.joins, s.begins)
