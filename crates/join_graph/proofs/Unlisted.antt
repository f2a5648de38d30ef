-- The relations that are not listed, which get fewer with each that is.
use Rattle.std.proofs.Common.{◌≡◌, ℕ, ◌<◌, Bool, true, false, not, cond, ◌⊎◌, List, [], ◌∷◌, length, refl, sym, ap, ◌∙◌, inl, inr, eqb, arith}
use Rattle.std.specs.List.{filter}
use Rattle.std.proofs.lemmas.Bool.{both_ways, cases_Bool, or_cases, not-true, not_from_false, not_from_true, eqb-true, lt-ltb}
use Rattle.rpt_base.specs.Lists.{has}
use Rattle.rpt_base.proofs.MemberFacts.{has-head, has-kept}
use Rattle.join_graph.proofs.NeededFacts.{filter-le}
use Rattle.join_graph.proofs.SumFacts.{up, has-up}

-- the relations that are not listed
abbrev pub unlisted : ℕ → List ℕ → List ℕ
unlisted n listed = filter (λ r. not (has r listed)) (up n)

filter-lt : (p q : ℕ → Bool) (xs : List ℕ) (x : ℕ) → ((v : ℕ) → p v ≡ true → q v ≡ true) → has x xs ≡ true → q x ≡ true → p x ≡ false
    → length (filter p xs) < length (filter q xs)
filter-lt p q [] x h k on off = absurd (both_ways false refl k)
filter-lt p q (y ∷ ys) x h k on off =
    elim (cases_Bool (eqb x y)) [
      | inl here ↦
          let e : x ≡ y = eqb-true x y here in
          let on' : q y ≡ true = ap q (sym e) ∙ on in
          let off' : p y ≡ false = ap p (sym e) ∙ off in
          rw (off', on') (omega (arith, filter-le p q ys (λ v i. h v)))
      | inr there ↦
          let rest : length (filter p ys) < length (filter q ys) = filter-lt p q ys x h (in_rest there (or_cases (eqb x y) (has x ys) k)) on off in
          elim (cases_Bool (p y)) [
            | inl on_p ↦ let on_q : q y ≡ true = h y on_p in rw (on_p, on_q) (omega arith)
            | inr off_p ↦ rw off_p (elim (q y) as (λ b. length (filter p ys) < length (cond b (y ∷ filter q ys) (filter q ys))) [ true ↦ omega arith | false ↦ rest ])
          ]
    ]
  where
    in_rest : eqb x y ≡ false → (eqb x y ≡ true) ⊎ (has x ys ≡ true) → has x ys ≡ true
    in_rest off_here (inl here) = absurd (both_ways (eqb x y) off_here here)
    in_rest off_here (inr r) = r

-- one more listed relation leaves fewer
pub unlisted-less : (n c : ℕ) (listed : List ℕ) → c < n → has c listed ≡ false → length (unlisted n (c ∷ listed)) < length (unlisted n listed)
unlisted-less n c listed below fresh =
    filter-lt _ _ (up n) c
    (λ v k. not_from_false _ (go v (not-true _ k)))
    (has-up n c ∙ lt-ltb c n below) (not_from_false _ fresh) (not_from_true _ (has-head c listed))
  where
    go : (v : ℕ) → has v (c ∷ listed) ≡ false → has v listed ≡ false
    go v h = elim (cases_Bool (has v listed)) [
      | inl on ↦ absurd (both_ways _ h (has-kept v c listed on))
      | inr off ↦ off
    ]
