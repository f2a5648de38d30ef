-- The definitions of graphs and join lists as tests that compute.
use Rattle.std.proofs.Common.{◌≡◌, ℕ, zero, suc, ◌+◌, ◌<◌, ◌≤◌, Bool, true, false, not, ◌||◌, ◌&&◌, List, [], ◌∷◌, length, get_or, refl, ap, ◌∙◌, subst, inl, inr, eqb, ltb, leb, arith}
use Rattle.std.specs.List.{All, list_all}
use Rattle.std.specs.List.Sorted.{IsStrictlyIncreasing}
use Rattle.std.proofs.lemmas.Bool.{eqb-true, both_ways, and_parts, or_cases, not-true, ltb-true, leb-true, cases_order}
use Rattle.std.proofs.lemmas.List.Elements.{All-nil, All-cons}
use Rattle.join_graph.specs.declared.tree.Link.{Link}
use Rattle.join_graph.specs.JoinList.{vars_of, listed_by, is_met, Extends, HasParents, Runs, IsGraph, IsJoinList}
use Rattle.rpt_base.specs.Lists.{has}
use Rattle.join_graph.proofs.SumFacts.{up}

-- the numbers rise strictly
abbrev pub rises : List ℕ → Bool
rises [] = true
rises (x ∷ []) = true
rises (x ∷ y ∷ rest) = ltb x y && rises (y ∷ rest)

-- the variables of a query's relations
abbrev pub is_graph : List (List ℕ) → Bool
is_graph vs = leb 1 (length vs) && (leb (length vs) 16 && (list_all rises vs && list_all (λ xs. leb (length xs) 64) vs))

abbrev pub extends : ℕ → List ℕ → List Link → Bool
extends n listed [] = true
extends n listed (l ∷ ls) = ltb l.child n && (not (has l.child listed) && (has l.parent listed && extends n (l.child ∷ listed) ls))

-- a list with parents
abbrev pub has_parents : ℕ → ℕ → List Link → Bool
has_parents n root links = ltb root n && (extends n (root ∷ []) links && list_all (λ r. has r (listed_by (root ∷ []) links)) (up n))

abbrev pub runs : List (List ℕ) → List ℕ → List Link → Bool
runs vs listed [] = true
runs vs listed (l ∷ ls) =
    list_all (λ v. not (is_met vs listed v) || has v (vars_of vs l.parent)) (vars_of vs l.child) && runs vs (l.child ∷ listed) ls

-- a join list
abbrev pub is_join_list : List (List ℕ) → ℕ → List Link → Bool
is_join_list vs root links = has_parents (length vs) root links && runs vs (root ∷ []) links

rises-holds : (xs : List ℕ) → rises xs ≡ true → IsStrictlyIncreasing xs
rises-holds [] h k l = absurd (omega arith)
rises-holds (x ∷ []) h k l = absurd (omega arith)
rises-holds (x ∷ y ∷ rest) h zero l = ltb-true x y (and_parts (ltb x y) (rises (y ∷ rest)) h).0
rises-holds (x ∷ y ∷ rest) h (suc k) l =
    let below : get_or (y ∷ rest) k 0 < get_or (y ∷ rest) (k + 1) 0 = rises-holds (y ∷ rest) (and_parts (ltb x y) (rises (y ∷ rest)) h).1 k (omega arith) in
    let same : suc (k + 1) ≡ suc k + 1 = omega arith in
    subst (λ i. get_or (y ∷ rest) k 0 < get_or (x ∷ y ∷ rest) i 0) same below

each-holds : (p : List ℕ → Bool) (P : List ℕ → Type 0) → ((xs : List ℕ) → p xs ≡ true → P xs) → (vs : List (List ℕ)) → list_all p vs ≡ true
    → All P vs
each-holds p P each [] h = All-nil P
each-holds p P each (xs ∷ vs) h =
    let parts : (p xs ≡ true) × (list_all p vs ≡ true) = and_parts (p xs) (list_all p vs) h in
    All-cons P xs vs (each xs parts.0) (each-holds p P each vs parts.1)

pub is_graph-holds : (vs : List (List ℕ)) → is_graph vs ≡ true → IsGraph vs
is_graph-holds vs h =
    let one : (leb 1 (length vs) ≡ true) × ((leb (length vs) 16 && (list_all rises vs && list_all (λ xs. leb (length xs) 64) vs)) ≡ true) = and_parts _ _ h in
    let two : (leb (length vs) 16 ≡ true) × ((list_all rises vs && list_all (λ xs. leb (length xs) 64) vs) ≡ true) = and_parts _ _ one.1 in
    let three : (list_all rises vs ≡ true) × (list_all (λ xs. leb (length xs) 64) vs ≡ true) = and_parts _ _ two.1 in
    record {
      some = leb-true 1 (length vs) one.0;
      few = leb-true (length vs) 16 two.0;
      rising = each-holds rises (λ xs. IsStrictlyIncreasing xs) rises-holds vs three.0;
      short = each-holds (λ xs. leb (length xs) 64) (λ xs. length xs ≤ 64) (λ xs k. leb-true (length xs) 64 k) vs three.1;
    }

pub not-or : (a b : Bool) → (not a || b) ≡ true → a ≡ true → b ≡ true
not-or a b h k = elim (or_cases (not a) b h) [ inl n ↦ absurd (both_ways a (not-true a n) k) | inr y ↦ y ]

pub all-up : (p : ℕ → Bool) (n : ℕ) → list_all p (up n) ≡ true → (r : ℕ) → r < n → p r ≡ true
all-up p zero h r l = absurd (omega arith)
all-up p (suc n) h r l =
    let parts : (p n ≡ true) × (list_all p (up n) ≡ true) = and_parts (p n) (list_all p (up n)) h in
    elim (cases_order r n) [
      | inl e ↦ ap p e ∙ parts.0
      | inr (inl less) ↦ all-up p n parts.1 r less
      | inr (inr more) ↦ absurd (omega arith)
    ]

pub all-members : (p : ℕ → Bool) (xs : List ℕ) → list_all p xs ≡ true → (x : ℕ) → has x xs ≡ true → p x ≡ true
all-members p [] h x k = absurd (both_ways false refl k)
all-members p (y ∷ ys) h x k =
    let parts : (p y ≡ true) × (list_all p ys ≡ true) = and_parts (p y) (list_all p ys) h in
    elim (or_cases (eqb x y) (has x ys) k) [ inl e ↦ ap p (eqb-true x y e) ∙ parts.0 | inr i ↦ all-members p ys parts.1 x i ]

extends-holds : (n : ℕ) (listed : List ℕ) (ls : List Link) → extends n listed ls ≡ true → Extends n listed ls
extends-holds n listed [] h = tt
extends-holds n listed (l ∷ ls) h =
    let one : (ltb l.child n ≡ true) × ((not (has l.child listed) && (has l.parent listed && extends n (l.child ∷ listed) ls)) ≡ true) = and_parts _ _ h in
    let two : (not (has l.child listed) ≡ true) × ((has l.parent listed && extends n (l.child ∷ listed) ls) ≡ true) = and_parts _ _ one.1 in
    let three : (has l.parent listed ≡ true) × (extends n (l.child ∷ listed) ls ≡ true) = and_parts _ _ two.1 in
    (ltb-true l.child n one.0, not-true _ two.0, three.0, extends-holds n (l.child ∷ listed) ls three.1)

pub has_parents-holds : (n root : ℕ) (ls : List Link) → has_parents n root ls ≡ true → HasParents n root ls
has_parents-holds n root ls h =
    let one : (ltb root n ≡ true) × ((extends n (root ∷ []) ls && list_all (λ r. has r (listed_by (root ∷ []) ls)) (up n)) ≡ true) = and_parts _ _ h in
    let two : (extends n (root ∷ []) ls ≡ true) × (list_all (λ r. has r (listed_by (root ∷ []) ls)) (up n) ≡ true) = and_parts _ _ one.1 in
    record { first = ltb-true root n one.0; extends = extends-holds n (root ∷ []) ls two.0; all = all-up _ n two.1 }

runs-holds : (vs : List (List ℕ)) (listed : List ℕ) (ls : List Link) → runs vs listed ls ≡ true → Runs vs listed ls
runs-holds vs listed [] h = tt
runs-holds vs listed (l ∷ ls) h =
    let one : (list_all (λ v. not (is_met vs listed v) || has v (vars_of vs l.parent)) (vars_of vs l.child) ≡ true) × (runs vs (l.child ∷ listed) ls ≡ true) = and_parts _ _ h in
    ((λ v i m. not-or _ _ (all-members _ (vars_of vs l.child) one.0 v i) m), runs-holds vs (l.child ∷ listed) ls one.1)

pub is_join_list-holds : (vs : List (List ℕ)) (root : ℕ) (ls : List Link) → is_join_list vs root ls ≡ true → IsJoinList vs root ls
is_join_list-holds vs root ls h =
    let one : (has_parents (length vs) root ls ≡ true) × (runs vs (root ∷ []) ls ≡ true) = and_parts _ _ h in
    record { parents = has_parents-holds (length vs) root ls one.0; runs = runs-holds vs (root ∷ []) ls one.1 }
