-- A list with parents weighs at most `needed_of`, and as much exactly where it is a join list.
--
-- The surplus of the relations listed so far is the sum over the variables of the number of them that have it, less 1. It
-- grows with each child by just those of the child's variables that were met before. A link weighs at most that, and as much
-- exactly where these variables all lie in its parent.
use Rattle.std.proofs.Common.{◌≡◌, ℕ, zero, suc, ◌+◌, ◌-◌, ◌<◌, ◌≤◌, Bool, true, false, cond, ◌||◌, ◌&&◌, ◌⊎◌, List, [], ◌∷◌, ◌++◌, length, take, refl, sym, ap, ◌∙◌, subst, inl, inr, eqb, ltb, arith}
use Rattle.std.specs.List.{filter, count_by, list_any, concat}
use Rattle.std.specs.Set.{unique_keys}
use Rattle.std.proofs.lemmas.Bool.{eqb-true, both_ways, cases_Bool, or_cases, or_parts, or_left, or_right, and_from, lt-ltb, ltb-true}
use Rattle.join_graph.specs.declared.tree.Link.{Link}
use Rattle.join_graph.specs.JoinList.{vars_of, listed_by, Extends, HasParents, is_met, Runs}
use Rattle.rpt_base.specs.Lists.{has}
use Rattle.join_graph.specs.Weights.{weight_of, holders, variables, needed_of, total}
use Rattle.join_graph.proofs.SumFacts.{up, Distinct, add, add-is, add-agree, add-plus, add-ones, add-filter, has-filter, Distinct-filter, add-same, has-up, Distinct-up, add-up}
use Rattle.rpt_base.proofs.MemberFacts.{has-head, has-other, has-kept, has-append}
use Rattle.join_graph.proofs.ListFacts.{extends-below, only-root}
use Rattle.rpt_base.proofs.BoolFacts.{same_truth}

-- filters of one list by two tests
pub filter-le : (p q : ℕ → Bool) (xs : List ℕ) → ((v : ℕ) → has v xs ≡ true → p v ≡ true → q v ≡ true)
    → length (filter p xs) ≤ length (filter q xs)
filter-le p q [] h = omega arith
filter-le p q (x ∷ xs) h =
    let rest : length (filter p xs) ≤ length (filter q xs) = filter-le p q xs (λ v k. h v (has-kept v x xs k)) in
    elim (cases_Bool (p x)) [
      | inl on ↦ let on' : q x ≡ true = h x (has-head x xs) on in rw (on, on') (omega arith)
      | inr off ↦ rw off (elim (q x) as (λ b. length (filter p xs) ≤ length (cond b (x ∷ filter q xs) (filter q xs))) [ true ↦ omega arith | false ↦ rest ])
    ]

filter-equal : (p q : ℕ → Bool) (xs : List ℕ) → ((v : ℕ) → p v ≡ true → q v ≡ true) → length (filter p xs) ≡ length (filter q xs) → (v : ℕ)
    → has v xs ≡ true → q v ≡ true → p v ≡ true
filter-equal p q [] h e v k m = absurd (both_ways false refl k)
filter-equal p q (x ∷ xs) h e v k m =
    let rest : length (filter p xs) ≤ length (filter q xs) = filter-le p q xs (λ z j. h z) in
    elim (cases_Bool (p x)) [
      | inl on ↦
          let on' : q x ≡ true = h x on in
          let e' : length (filter p xs) ≡ length (filter q xs) = omega (arith, rw (on, on') at e) in
          elim (or_cases (eqb v x) (has v xs) k) [ inl here ↦ ap p (eqb-true v x here) ∙ on | inr there ↦ filter-equal p q xs h e' v there m ]
      | inr off ↦ elim (cases_Bool (q x)) [
        | inl on' ↦ absurd (omega (arith, rw (off, on') at e))
        | inr off' ↦
            let e' : length (filter p xs) ≡ length (filter q xs) = rw (off, off') at e in
            elim (or_cases (eqb v x) (has v xs) k) [
              | inl here ↦ absurd (both_ways (q x) off' (sym (ap q (eqb-true v x here)) ∙ m))
              | inr there ↦ filter-equal p q xs h e' v there m
            ]
      ]
    ]

module _ (vs : List (List ℕ)) where
  -- how many of the listed relations have v
  abbrev pub counted : List ℕ → ℕ → ℕ
  counted [] v = 0
  counted (e ∷ listed) v = cond (has v (vars_of vs e)) 1 0 + counted listed v

  met-counted : (listed : List ℕ) (v : ℕ) → is_met vs listed v ≡ true → 1 ≤ counted listed v
  met-counted [] v h = absurd (both_ways false refl h)
  met-counted (e ∷ listed) v h =
      elim (or_cases (has v (vars_of vs e)) (is_met vs listed v) h) [
        | inl on ↦ rw on (omega arith)
        | inr there ↦ omega (arith, met-counted listed v there)
      ]

  unmet-counted : (listed : List ℕ) (v : ℕ) → is_met vs listed v ≡ false → counted listed v ≡ 0
  unmet-counted [] v h = refl
  unmet-counted (e ∷ listed) v h =
      let parts : (has v (vars_of vs e) ≡ false) × (is_met vs listed v ≡ false) = or_parts (has v (vars_of vs e)) (is_met vs listed v) h in
      let off : has v (vars_of vs e) ≡ false = parts.0 in
      let rest : counted listed v ≡ 0 = unmet-counted listed v parts.1 in
      rw off (omega arith)

  met-listed : (p : ℕ) (listed : List ℕ) (v : ℕ) → has p listed ≡ true → has v (vars_of vs p) ≡ true → is_met vs listed v ≡ true
  met-listed p [] v h k = absurd (both_ways false refl h)
  met-listed p (e ∷ listed) v h k =
      elim (or_cases (eqb p e) (has p listed) h) [
        | inl here ↦ or_left (has v (vars_of vs e)) (is_met vs listed v) (subst (λ z. has v (vars_of vs z) ≡ true) (eqb-true p e here) k)
        | inr there ↦ or_right (has v (vars_of vs e)) (is_met vs listed v) (met-listed p listed v there k)
      ]

  -- the surplus of the variables of list z over the listed relations
  abbrev pub surplus : List ℕ → List ℕ → ℕ
  surplus z listed = add (λ v. counted listed v - 1) z

  surplus-one : (z : List ℕ) (root : ℕ) → surplus z (root ∷ []) ≡ 0
  surplus-one [] root = refl
  surplus-one (v ∷ z) root =
      let rest : surplus z (root ∷ []) ≡ 0 = surplus-one z root in
      elim (has v (vars_of vs root)) as (λ b. ((cond b 1 0 + 0) - 1) + surplus z (root ∷ []) ≡ 0) [ true ↦ omega arith | false ↦ omega arith ]

  one-more : (listed : List ℕ) (c v : ℕ)
      → counted (c ∷ listed) v - 1 ≡ (counted listed v - 1) + cond (has v (vars_of vs c)) (cond (is_met vs listed v) 1 0) 0
  one-more listed c v =
      elim (cases_Bool (is_met vs listed v)) [
        | inl met ↦
            let some : 1 ≤ counted listed v = met-counted listed v met in
            rw met (elim (has v (vars_of vs c)) as (λ b. (cond b 1 0 + counted listed v) - 1 ≡ (counted listed v - 1) + cond b 1 0) [ true ↦ omega arith | false ↦ omega arith ])
        | inr unmet ↦
            let none : counted listed v ≡ 0 = unmet-counted listed v unmet in
            rw unmet (elim (has v (vars_of vs c)) as (λ b. (cond b 1 0 + counted listed v) - 1 ≡ (counted listed v - 1) + cond b 0 0) [ true ↦ omega arith | false ↦ omega arith ])
      ]

  pub surplus-more : (z : List ℕ) (listed : List ℕ) (c : ℕ) → Distinct z → Distinct (vars_of vs c)
      → ((v : ℕ) → has v (vars_of vs c) ≡ true → has v z ≡ true)
      → surplus z (c ∷ listed) ≡ surplus z listed + length (filter (is_met vs listed) (vars_of vs c))
  surplus-more z listed c dz dc within =
      let f : ℕ → ℕ = λ v. cond (is_met vs listed v) 1 0 in
      let one : surplus z (c ∷ listed) ≡ add (λ v. (counted listed v - 1) + cond (has v (vars_of vs c)) (f v) 0) z = add-agree _ _ z (one-more listed c) in
      let two : add (λ v. (counted listed v - 1) + cond (has v (vars_of vs c)) (f v) 0) z ≡ surplus z listed + add (λ v. cond (has v (vars_of vs c)) (f v) 0) z = add-plus _ _ z in
      let three : add f (filter (λ v. has v (vars_of vs c)) z) ≡ add (λ v. cond (has v (vars_of vs c)) (f v) 0) z = add-filter f (λ v. has v (vars_of vs c)) z in
      let four : add f (filter (λ v. has v (vars_of vs c)) z) ≡ add f (vars_of vs c) =
      add-same f _ _ (Distinct-filter (λ v. has v (vars_of vs c)) z dz) dc (λ v. has-filter v (λ u. has u (vars_of vs c)) z ∙ both v (cases_Bool (has v (vars_of vs c)))) in
      let five : add (λ x. 1) (filter (is_met vs listed) (vars_of vs c)) ≡ add f (vars_of vs c) = add-filter (λ x. 1) (is_met vs listed) (vars_of vs c) in
      let six : add (λ x. 1) (filter (is_met vs listed) (vars_of vs c)) ≡ length (filter (is_met vs listed) (vars_of vs c)) = add-ones _ in
      omega arith
    where
      both : (v : ℕ) → (has v (vars_of vs c) ≡ true) ⊎ (has v (vars_of vs c) ≡ false)
          → (has v z && has v (vars_of vs c)) ≡ has v (vars_of vs c)
      both v (inl on) = and_from (has v z) (has v (vars_of vs c)) (within v on) on ∙ sym on
      both v (inr off) = rw off (and-off (has v z))
        where
          and-off : (b : Bool) → (b && false) ≡ false
          and-off true = refl
          and-off false = refl

  -- a link weighs at most what its child adds
  link-le : (listed : List ℕ) (c p : ℕ) → has p listed ≡ true → weight_of vs c p ≤ length (filter (is_met vs listed) (vars_of vs c))
  link-le listed c p h = filter-le (λ v. has v (vars_of vs p)) (is_met vs listed) (vars_of vs c) (λ v i k. met-listed p listed v h k)

  module _ (z : List ℕ) (dz : Distinct z) (each : (r : ℕ) → Distinct (vars_of vs r)) (within : (r v : ℕ) → has v (vars_of vs r) ≡ true → has v z ≡ true) where
    total-surplus : (n : ℕ) (listed : List ℕ) (links : List Link) → Extends n listed links
        → total (weight_of vs) links + surplus z listed ≤ surplus z (listed_by listed links)
    total-surplus n listed [] h = omega arith
    total-surplus n listed (l ∷ links) h =
        omega (arith, link-le listed l.child l.parent h.2, surplus-more z listed l.child dz (each l.child) (within l.child), total-surplus n (l.child ∷ listed) links h.3)

    surplus-runs : (n : ℕ) (listed : List ℕ) (links : List Link) → Extends n listed links → Runs vs listed links
        → total (weight_of vs) links + surplus z listed ≡ surplus z (listed_by listed links)
    surplus-runs n listed [] h runs = omega arith
    surplus-runs n listed (l ∷ links) h runs =
        let back : length (filter (is_met vs listed) (vars_of vs l.child)) ≤ weight_of vs l.child l.parent =
        filter-le (is_met vs listed) (λ v. has v (vars_of vs l.parent)) (vars_of vs l.child) (λ v i k. runs.0 v i k) in
        omega (arith, back, link-le listed l.child l.parent h.2, surplus-more z listed l.child dz (each l.child) (within l.child), surplus-runs n (l.child ∷ listed) links h.3 runs.1)

    runs-surplus : (n : ℕ) (listed : List ℕ) (links : List Link) → Extends n listed links
        → total (weight_of vs) links + surplus z listed ≡ surplus z (listed_by listed links) → Runs vs listed links
    runs-surplus n listed [] h e = tt
    runs-surplus n listed (l ∷ links) h e =
        let one : weight_of vs l.child l.parent ≤ length (filter (is_met vs listed) (vars_of vs l.child)) = link-le listed l.child l.parent h.2 in
        let more : surplus z (l.child ∷ listed) ≡ surplus z listed + length (filter (is_met vs listed) (vars_of vs l.child)) = surplus-more z listed l.child dz (each l.child) (within l.child) in
        let rest : total (weight_of vs) links + surplus z (l.child ∷ listed) ≤ surplus z (listed_by (l.child ∷ listed) links) = total-surplus n (l.child ∷ listed) links h.3 in
        let equal : weight_of vs l.child l.parent ≡ length (filter (is_met vs listed) (vars_of vs l.child)) = omega arith in (
          filter-equal (λ v. has v (vars_of vs l.parent)) (is_met vs listed) (vars_of vs l.child) (λ v k. met-listed l.parent listed v h.2 k) equal,
          runs-surplus n (l.child ∷ listed) links h.3 (omega arith),
        )

  counted-add : (listed : List ℕ) (v : ℕ) → counted listed v ≡ add (λ e. cond (has v (vars_of vs e)) 1 0) listed
  counted-add [] v = refl
  counted-add (e ∷ listed) v = ap (λ k. cond (has v (vars_of vs e)) 1 0 + k) (counted-add listed v)

  counted-all : (final : List ℕ) → Distinct final → ((r : ℕ) → has r final ≡ ltb r (length vs)) → (v : ℕ) → counted final v ≡ holders vs v
  counted-all final d all v =
      counted-add final v
      ∙ add-same (λ e. cond (has v (vars_of vs e)) 1 0) final (up (length vs)) d (Distinct-up (length vs)) (λ r. all r ∙ sym (has-up (length vs) r))
      ∙ add-up (λ xs. cond (has v xs) 1 0) vs (length vs) (omega arith)
      ∙ ap (λ xs. count_by (has v) xs) (take-all vs)
    where
      take-all : (xs : List (List ℕ)) → take (length xs) xs ≡ xs
      take-all [] = refl
      take-all (x ∷ xs) = ap (λ ys. x ∷ ys) (take-all xs)

  pub surplus-needed : (final : List ℕ) → Distinct final → ((r : ℕ) → has r final ≡ ltb r (length vs))
      → surplus (variables vs) final ≡ needed_of vs
  surplus-needed final d all =
      add-agree _ _ (variables vs) (λ v. ap (λ k. k - 1) (counted-all final d all v)) ∙ sym (add-is (λ v. holders vs v - 1) (variables vs))

-- the variables, each once
any-has : (x : ℕ) (xs : List ℕ) → list_any (λ y. eqb x y) xs ≡ has x xs
any-has x [] = refl
any-has x (y ∷ ys) = ap (λ b. eqb x y || b) (any-has x ys)

pub has-unique : (x : ℕ) (xs : List ℕ) → has x (unique_keys eqb xs) ≡ has x xs
has-unique x [] = refl
has-unique x (y ∷ ys) =
    elim (cases_Bool (has y ys)) [
      | inl on ↦
          let on' : list_any (λ z. eqb y z) ys ≡ true = any-has y ys ∙ on in
          rw on' (has-unique x ys ∙ go (cases_Bool (eqb x y)) on)
      | inr off ↦
          let off' : list_any (λ z. eqb y z) ys ≡ false = any-has y ys ∙ off in
          rw off' (ap (λ b. eqb x y || b) (has-unique x ys))
    ]
  where
    go : (eqb x y ≡ true) ⊎ (eqb x y ≡ false) → has y ys ≡ true → has x ys ≡ (eqb x y || has x ys)
    go (inl here) on = (ap (λ z. has z ys) (eqb-true x y here) ∙ on) ∙ sym (or_left (eqb x y) (has x ys) here)
    go (inr there) on = sym (has-other x y ys there)

pub Distinct-unique : (xs : List ℕ) → Distinct (unique_keys eqb xs)
Distinct-unique [] = tt
Distinct-unique (y ∷ ys) =
    elim (cases_Bool (has y ys)) [
      | inl on ↦ let on' : list_any (λ z. eqb y z) ys ≡ true = any-has y ys ∙ on in rw on' (Distinct-unique ys)
      | inr off ↦
          let off' : list_any (λ z. eqb y z) ys ≡ false = any-has y ys ∙ off in
          rw off' (has-unique y ys ∙ off, Distinct-unique ys)
    ]

pub has-concat : (vs : List (List ℕ)) (r v : ℕ) → has v (vars_of vs r) ≡ true → has v (concat vs) ≡ true
has-concat [] r v h = absurd (both_ways false refl h)
has-concat (xs ∷ vs) zero v h = has-append v xs (concat vs) ∙ or_left (has v xs) (has v (concat vs)) h
has-concat (xs ∷ vs) (suc r) v h = has-append v xs (concat vs) ∙ or_right (has v xs) (has v (concat vs)) (has-concat vs r v h)

Distinct-listed : (n : ℕ) (listed : List ℕ) (links : List Link) → Extends n listed links → Distinct listed
    → Distinct (listed_by listed links)
Distinct-listed n listed [] h d = d
Distinct-listed n listed (l ∷ links) h d = Distinct-listed n (l.child ∷ listed) links h.3 (h.1, d)

module _ (vs : List (List ℕ)) (each : (r : ℕ) → Distinct (vars_of vs r)) (root : ℕ) (links : List Link) (h : HasParents (length vs) root links) where
  surplus-final : surplus vs (variables vs) (listed_by (root ∷ []) links) ≡ needed_of vs
  surplus-final =
      surplus-needed vs (listed_by (root ∷ []) links) (Distinct-listed (length vs) (root ∷ []) links h.extends (refl, tt))
      (λ r. same_truth _ _ (λ k. lt-ltb r (length vs) (extends-below (length vs) (root ∷ []) links h.extends (only-root (λ z. z < length vs) root h.first) r k)) (λ k. h.all r (ltb-true r (length vs) k)))

  within-variables : (r v : ℕ) → has v (vars_of vs r) ≡ true → has v (variables vs) ≡ true
  within-variables r v k = has-unique v (concat vs) ∙ has-concat vs r v k

  -- a list with parents weighs at most what is needed
  pub total-le-needed : total (weight_of vs) links ≤ needed_of vs
  total-le-needed =
      omega (arith, surplus-final, surplus-one vs (variables vs) root, total-surplus vs (variables vs) (Distinct-unique (concat vs)) each within-variables (length vs) (root ∷ []) links h.extends)

  -- a join list weighs what is needed
  pub total_of_runs : Runs vs (root ∷ []) links → total (weight_of vs) links ≡ needed_of vs
  total_of_runs runs =
      omega (arith, surplus-final, surplus-one vs (variables vs) root, surplus-runs vs (variables vs) (Distinct-unique (concat vs)) each within-variables (length vs) (root ∷ []) links h.extends runs)

  -- a list with parents that weighs what is needed is a join list
  pub runs_from_total : total (weight_of vs) links ≡ needed_of vs → Runs vs (root ∷ []) links
  runs_from_total e =
      runs-surplus vs (variables vs) (Distinct-unique (concat vs)) each within-variables (length vs) (root ∷ []) links h.extends
      (omega (arith, e, surplus-final, surplus-one vs (variables vs) root))
