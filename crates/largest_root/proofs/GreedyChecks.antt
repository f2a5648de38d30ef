-- The definition of the greedy list as tests that compute.
use Rattle.std.proofs.Common.{◌≡◌, ℕ, ◌<◌, Bool, true, false, not, ◌||◌, ◌&&◌, List, [], ◌∷◌, inl, inr, eqb, ltb, leb}
use Rattle.std.specs.List.{list_all}
use Rattle.std.proofs.lemmas.Bool.{eqb-true, and_parts, or_cases, not-true, ltb-true, leb-true}
use Rattle.join_graph.specs.declared.tree.Link.{Link}
use Rattle.rpt_base.specs.Lists.{has}
use Rattle.join_graph.proofs.JoinChecks.{not-or, all-up}
use Rattle.join_graph.proofs.ListFacts.{only-more}
use Rattle.join_graph.proofs.SumFacts.{up}
use Rattle.largest_root.specs.Greedy.{NotBefore, Greedy}

abbrev pub not_before : (ℕ → ℕ → ℕ) → (ℕ → ℕ) → ℕ → ℕ → ℕ → ℕ → Bool
not_before w size i j c p = ltb (w i j) (w c p) || (eqb (w i j) (w c p) && (ltb (size i) (size c) || (eqb (size i) (size c) && (ltb c i || (eqb c i && leb p j)))))

abbrev pub greedy : (ℕ → ℕ → ℕ) → (ℕ → ℕ) → ℕ → (ℕ → Bool) → List ℕ → List Link → Bool
greedy w size n set listed [] = list_all (λ r. not (set r) || has r listed) (up n)
greedy w size n set listed (l ∷ ls) = set l.child && (not (has l.child listed) && (has l.parent listed && (list_all (λ i. list_all (λ j. (not (set i) || (has i listed || not (has j listed))) || not_before w size i j l.child l.parent) (up n)) (up n) && greedy w size n set (l.child ∷ listed) ls)))

abbrev pub is_largest : (ℕ → ℕ) → ℕ → (ℕ → Bool) → ℕ → Bool
is_largest size n set root = set root && list_all (λ i. not (set i) || (ltb (size i) (size root) || (eqb (size i) (size root) && leb root i))) (up n)

module _ (w : ℕ → ℕ → ℕ) (size : ℕ → ℕ) where
  not_before-holds : (i j c p : ℕ) → not_before w size i j c p ≡ true → NotBefore w size i j c p
  not_before-holds i j c p h =
      elim (or_cases _ _ h) [
        | inl less ↦ inl (ltb-true _ _ less)
        | inr t ↦
            let one : (eqb (w i j) (w c p) ≡ true) × ((ltb (size i) (size c) || (eqb (size i) (size c) && (ltb c i || (eqb c i && leb p j)))) ≡ true) = and_parts _ _ t in
            inr (
              eqb-true _ _ one.0,
              elim (or_cases _ _ one.1) [
                | inl less ↦ inl (ltb-true _ _ less)
                | inr u ↦
                    let two : (eqb (size i) (size c) ≡ true) × ((ltb c i || (eqb c i && leb p j)) ≡ true) = and_parts _ _ u in
                    inr (
                      eqb-true _ _ two.0,
                      elim (or_cases _ _ two.1) [
                        | inl less ↦ inl (ltb-true _ _ less)
                        | inr v ↦ let three : (eqb c i ≡ true) × (leb p j ≡ true) = and_parts _ _ v in inr (eqb-true _ _ three.0, leb-true _ _ three.1)
                      ],
                    )
              ],
            )
      ]

  module _ (n : ℕ) (set : ℕ → Bool) (below : (r : ℕ) → set r ≡ true → r < n) where
    pub greedy-holds : (listed : List ℕ) (ls : List Link) → ((r : ℕ) → has r listed ≡ true → r < n) → greedy w size n set listed ls ≡ true
        → Greedy w size set listed ls
    greedy-holds listed [] members h = λ r k. not-or _ _ (all-up _ n h r (below r k)) k
    greedy-holds listed (l ∷ ls) members h =
        let best : ℕ → ℕ → Bool = λ i j. (not (set i) || (has i listed || not (has j listed))) || not_before w size i j l.child l.parent in
        let one : (set l.child ≡ true) × ((not (has l.child listed) && (has l.parent listed && (list_all (λ i. list_all (best i) (up n)) (up n) && greedy w size n set (l.child ∷ listed) ls))) ≡ true) = and_parts _ _ h in
        let two : (not (has l.child listed) ≡ true) × ((has l.parent listed && (list_all (λ i. list_all (best i) (up n)) (up n) && greedy w size n set (l.child ∷ listed) ls)) ≡ true) = and_parts _ _ one.1 in
        let three : (has l.parent listed ≡ true) × ((list_all (λ i. list_all (best i) (up n)) (up n) && greedy w size n set (l.child ∷ listed) ls) ≡ true) = and_parts _ _ two.1 in
        let four : (list_all (λ i. list_all (best i) (up n)) (up n) ≡ true) × (greedy w size n set (l.child ∷ listed) ls ≡ true) = and_parts _ _ three.1 in (
          one.0,
          not-true _ two.0,
          three.0,
          (λ i j a b c. not_before-holds i j l.child l.parent (open_pair i j a b c (all-up (best i) n (all-up (λ k. list_all (best k) (up n)) n four.0 i (below i a)) j (members j c)))),
          greedy-holds (l.child ∷ listed) ls (only-more (λ z. z < n) l.child listed (below l.child one.0) members) four.1,
        )
      where
        open_pair : (i j : ℕ) → set i ≡ true → has i listed ≡ false → has j listed ≡ true
            → ((not (set i) || (has i listed || not (has j listed))) || not_before w size i j l.child l.parent) ≡ true
            → not_before w size i j l.child l.parent ≡ true
        open_pair i j a b c h = rw (a, b, c) at h
