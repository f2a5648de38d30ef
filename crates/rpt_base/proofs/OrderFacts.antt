-- Orders of relations, and tests of members.
use Rattle.std.proofs.Common.{◌≡◌, ◌∙◌, ◌⊎◌, inl, inr, refl, sym, ap, ℕ, ◌<◌, ◌≤◌, List, [], ◌∷◌, length, get_or, nat_lt, eqb, Bool, true, false, arith}
use Rattle.std.specs.Prelude.{◌&&◌, Contains}
use Rattle.std.specs.List.{list_all, range_with_len}
use Rattle.std.proofs.lemmas.Bool.{cases_order, eq-eqb, eqb-true, lt-ltb, ltb-true}
use Rattle.std.proofs.lemmas.List.Folds.{list_all_at, list_any_at}
use Rattle.std.proofs.lemmas.List.FromFn.{get_or-range_with_len, length-range_with_len}
use Rattle.std.proofs.lemmas.Map.Views.{Contains-from_any}
use Rattle.rpt_base.specs.Lists.{has}
use Rattle.rpt_base.specs.Orders.{IsOrder, is_order}
use Rattle.rpt_base.proofs.BoolFacts.{same_truth}

-- a list contains what it has
pub Contains-has : (x : ℕ) (xs : List ℕ) → has x xs ≡ true → Contains xs x
Contains-has x xs h = Contains-from_any {eq = eqb} (λ a b e. eqb-true a b e) x xs h

pub has-Contains : (x : ℕ) (xs : List ℕ) → Contains xs x → has x xs ≡ true
has-Contains x xs c = list_any_at (λ y. eqb x y) xs c.0 x c.1 (eq-eqb x (get_or xs c.0 x) (sym c.2))

-- an order has the numbers below n, and no others
pub order-has : (n : ℕ) (order : List ℕ) → IsOrder n order → (r : ℕ) → has r order ≡ nat_lt r n
order-has n order is r =
    same_truth (has r order) (nat_lt r n) (λ h. lt-ltb r n ((is.members r).0 (Contains-has r order h)))
    (λ h. has-Contains r order ((is.members r).1 (ltb-true r n h)))

-- what has just these, as many as they are, is an order
pub order-from_has : (n : ℕ) (order : List ℕ) → length order ≡ n → ((r : ℕ) → has r order ≡ nat_lt r n) → IsOrder n order
order-from_has n order count all = record {
  count = count;
  members = λ r. (
    (λ c. ltb-true r n (sym (all r) ∙ has-Contains r order c)),
    (λ lt. Contains-has r order (all r ∙ lt-ltb r n lt)),
  );
}

-- its members are below n
pub order-below : (n : ℕ) (order : List ℕ) → IsOrder n order → (k d : ℕ) → k < length order → get_or order k d < n
order-below n order is k d lt = ltb-true (get_or order k d) n (sym (order-has n order is (get_or order k d)) ∙ list_any_at (λ y. eqb (get_or order k d) y) order k d lt (eq-eqb _ _ refl))

-- what is tested is an order of the relations
pub is_order-IsOrder : (n : ℕ) (order : List ℕ) → is_order n order ≡ true → IsOrder n order
is_order-IsOrder n order holds =
    let long : eqb (length order) n ≡ true = and-left _ _ holds in
    let rest : (list_all (λ r. nat_lt r n) order && list_all (λ r. has r order) (range_with_len 0 n)) ≡ true = and-right (eqb (length order) n) _ holds in
    let below = and-left (list_all (λ r. nat_lt r n) order) (list_all (λ r. has r order) (range_with_len 0 n)) rest in
    let all = and-right (list_all (λ r. nat_lt r n) order) (list_all (λ r. has r order) (range_with_len 0 n)) rest in
    order-from_has n order (grind arith) (λ r. each r (cases_le n r) below all)
  where
    and-left : (a b : Bool) → (a && b) ≡ true → a ≡ true
    and-left true b e = refl
    and-left false b e = cc e

    and-right : (a b : Bool) → (a && b) ≡ true → b ≡ true
    and-right true b e = e
    and-right false b e = cc e

    -- a number that is too large is not among smaller ones
    not-among : (r : ℕ) (order : List ℕ) → n ≤ r → list_all (λ s. nat_lt s n) order ≡ true → has r order ≡ false
    not-among r [] large below = refl
    not-among r (s ∷ order) large below =
        let here = and-left (nat_lt s n) (list_all (λ t. nat_lt t n) order) below in
        let other : eqb r s ≡ false = grind arith in
        rw (other, not-among r order large (and-right (nat_lt s n) (list_all (λ t. nat_lt t n) order) below)) refl

    cases_le : (a b : ℕ) → (b < a) ⊎ (a ≤ b)
    cases_le a b = by (cases_order a b)
      where
        by : (a ≡ b) ⊎ ((a < b) ⊎ (b < a)) → (b < a) ⊎ (a ≤ b)
        by (inl same) = inr (omega arith)
        by (inr (inl lt)) = inr (omega arith)
        by (inr (inr lt)) = inl lt

    each : (r : ℕ) → (r < n) ⊎ (n ≤ r) → list_all (λ s. nat_lt s n) order ≡ true → list_all (λ s. has s order) (range_with_len 0 n) ≡ true → has r order ≡ nat_lt r n
    each r (inl lt) below all =
        let at : get_or (range_with_len 0 n) r 0 ≡ r = get_or-range_with_len 0 n r 0 lt ∙ (omega arith) in
        let below_n : nat_lt r n ≡ true = grind arith in
        stands (has r order) refl at all ∙ sym below_n
      where
        stands : (b : Bool) → has r order ≡ b → get_or (range_with_len 0 n) r 0 ≡ r → list_all (λ s. has s order) (range_with_len 0 n) ≡ true → has r order ≡ true
        stands true e at all = e
        stands false e at all =
            let none : list_all (λ s. has s order) (range_with_len 0 n) ≡ false =
            list_all_at (λ s. has s order) (range_with_len 0 n) r 0 (omega (arith, length-range_with_len 0 n)) (ap (λ s. has s order) at ∙ e) in
            absurd (let no : true ≡ false = sym all ∙ none in cc)
    each r (inr large) below all =
        let out : nat_lt r n ≡ false = grind arith in
        not-among r order large below ∙ sym out
