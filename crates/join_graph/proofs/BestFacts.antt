-- Of the lists with parents one weighs most, whatever the weights are.
use Rattle.std.proofs.Common.{◌≡◌, ℕ, zero, suc, ◌+◌, ◌<◌, ◌≤◌, true, false, ◌⊎◌, List, [], ◌∷◌, length, refl, sym, ap, subst, inl, inr, arith}
use Rattle.std.proofs.lemmas.Bool.{both_ways, cases_Bool, cases_lt}
use Rattle.join_graph.specs.declared.tree.Link.{Link}
use Rattle.join_graph.specs.JoinList.{listed_by, Extends, HasParents}
use Rattle.rpt_base.specs.Lists.{has}
use Rattle.join_graph.specs.Weights.{total, IsBest}
use Rattle.join_graph.proofs.BestOf.{HasBest, best-below}
use Rattle.join_graph.proofs.ListFacts.{only-more, only-root}
use Rattle.rpt_base.proofs.MemberFacts.{has-head}
use Rattle.join_graph.proofs.Unlisted.{unlisted, unlisted-less}

-- links that list the rest of n relations
record ListsRest (n : ℕ) (listed : List ℕ) (ls : List Link) : Type 0 where
  pub extends : Extends n listed ls
  pub all : (r : ℕ) → r < n → has r (listed_by listed ls) ≡ true

module _ (n : ℕ) (w : ℕ → ℕ → ℕ) where
  -- some links list the rest, and none that do weigh more
  record HasBestRest (listed : List ℕ) : Type 0 where
    pub links : List Link
    pub rest : ListsRest n listed links
    pub greatest : (ms : List Link) → ListsRest n listed ms → total w ms ≤ total w links

  abbrev IsNoHeavier : List Link → List Link → Type 0
  IsNoHeavier ls ms = total w ls ≤ total w ms

  either-way : (a b : ℕ) → (a ≤ b) ⊎ (b ≤ a)
  either-way a b = elim (cases_lt a b) [ inl l ↦ inl (omega arith) | inr l ↦ inr l ]

  -- the first link is that of i to j, and the links list the rest
  record BeginsBy (listed : List ℕ) (i j : ℕ) (ls : List Link) : Type 0 where
    pub fresh : has i listed ≡ false
    pub known : has j listed ≡ true
    pub later : List Link
    pub joined : ls ≡ record { child = i; parent = j } ∷ later
    pub rest : ListsRest n (i ∷ listed) later

  module _ (listed : List ℕ) (below : (r : ℕ) → has r listed ≡ true → r < n) (p : ℕ) (shown : has p listed ≡ true)
      (next : (i : ℕ) → i < n → has i listed ≡ false → HasBestRest (i ∷ listed)) where
    best-by : (i j : ℕ) → i < n → HasBest IsNoHeavier (λ x y z a b. omega arith) (λ x y. either-way (total w x) (total w y)) (BeginsBy listed i j)
    best-by i j li = by (cases_Bool (has i listed)) (cases_Bool (has j listed))
      where
        by : (has i listed ≡ true) ⊎ (has i listed ≡ false) → (has j listed ≡ true) ⊎ (has j listed ≡ false)
            → HasBest IsNoHeavier (λ x y z a b. omega arith) (λ x y. either-way (total w x) (total w y)) (BeginsBy listed i j)
        by (inl on) _ = inl (λ ls h. both_ways _ h.fresh on)
        by _ (inr off) = inl (λ ls h. both_ways _ off h.known)
        by (inr off) (inl on) =
            let best = next i li off in
            inr (
              record { child = i; parent = j } ∷ best.links,
              record { fresh = off; known = on; later = best.links; joined = refl; rest = best.rest },
              λ ls h. (let weight : total w ls ≡ w i j + total w h.later = ap (total w) h.joined in omega (arith, weight, best.greatest h.later h.rest)),
            )

    -- a list that is not empty begins by some link
    begins-by : (l : Link) (ls : List Link) → ListsRest n listed (l ∷ ls) → BeginsBy listed l.child l.parent (l ∷ ls)
    begins-by l ls h = record { fresh = h.extends.1; known = h.extends.2; later = ls; joined = refl; rest = record { extends = h.extends.3; all = h.all } }

    by-rest : (i j : ℕ) (ls : List Link) → i < n → BeginsBy listed i j ls → ListsRest n listed ls
    by-rest i j ls li h = subst (ListsRest n listed) (sym h.joined) (record { extends = (li, h.fresh, h.known, h.rest.extends); all = h.rest.all })

    best-step : HasBestRest listed
    best-step =
        by (best-below IsNoHeavier (λ x y z a b. omega arith) (λ x y. either-way (total w x) (total w y)) n (λ i ls. (j : ℕ) × (j < n) × BeginsBy listed i j ls)
        (λ i li. best-below IsNoHeavier (λ x y z a b. omega arith) (λ x y. either-way (total w x) (total w y)) n (λ j. BeginsBy listed i j) (λ j lj. best-by i j li)))
      where
        Begins : List Link → Type 0
        Begins ls = (i : ℕ) × (i < n) × ((j : ℕ) × (j < n) × BeginsBy listed i j ls)

        by : ((ls : List Link) → Begins ls → ⊥) ⊎ ((ls : List Link) × Begins ls × ((ms : List Link) → Begins ms → IsNoHeavier ms ls)) → HasBestRest listed
        by (inl none) = record { links = []; rest = record { extends = tt; all = all }; greatest = λ ms h. most ms h }
          where
            all : (r : ℕ) → r < n → has r listed ≡ true
            all r lr = elim (cases_Bool (has r listed)) [
              | inl on ↦ on
              | inr off ↦
                  let best = next r lr off in
                  absurd (none (record { child = r; parent = p } ∷ best.links) (r, lr, (p, below p shown, record { fresh = off; known = shown; later = best.links; joined = refl; rest = best.rest })))
            ]

            most : (ms : List Link) → ListsRest n listed ms → total w ms ≤ 0
            most [] h = omega arith
            most (m ∷ ms) h = absurd (none (m ∷ ms) (m.child, h.extends.0, (m.parent, below m.parent h.extends.2, begins-by m ms h)))
        by (inr (ls, (i, li, (j, lj, h)), most)) = record { links = ls; rest = by-rest i j ls li h; greatest = λ ms g. more ms g }
          where
            more : (ms : List Link) → ListsRest n listed ms → total w ms ≤ total w ls
            more [] g = omega arith
            more (m ∷ ms) g = most (m ∷ ms) (m.child, g.extends.0, (m.parent, below m.parent g.extends.2, begins-by m ms g))

  best-rest : (k : ℕ) (listed : List ℕ) → ((r : ℕ) → has r listed ≡ true → r < n) → (p : ℕ) → has p listed ≡ true
      → length (unlisted n listed) ≤ k → HasBestRest listed
  best-rest zero listed below p shown few = best-step listed below p shown (λ i li fresh. absurd (omega (arith, unlisted-less n i listed li fresh)))
  best-rest (suc k) listed below p shown few =
      best-step listed below p shown
      (λ i li fresh. best-rest k (i ∷ listed) (only-more (λ z. z < n) i listed li below) i (has-head i listed) (omega (arith, unlisted-less n i listed li fresh)))

  from-root : (r : ℕ) → r < n → HasBestRest (r ∷ [])
  from-root r lr = best-rest (length (unlisted n (r ∷ []))) (r ∷ []) (only-root (λ z. z < n) r lr) r (has-head r []) (omega arith)

  -- a list with parents weighs most
  pub best-there : 1 ≤ n → (best : ℕ) × IsBest n w best
  best-there some =
      by (best-below (λ x y. IsNoHeavier x.1 y.1) (λ x y z a b. omega arith) (λ x y. either-way (total w x.1) (total w y.1)) n From
      (λ r lr. (let best = from-root r lr in inr ((r, best.links), (refl, best.rest), λ y h. best.greatest y.1 (subst (λ z. ListsRest n (z ∷ []) y.1) h.0 h.1)))))
    where
      From : ℕ → (ℕ × List Link) → Type 0
      From r x = (x.0 ≡ r) × ListsRest n (x.0 ∷ []) x.1

      Some : (ℕ × List Link) → Type 0
      Some x = (r : ℕ) × (r < n) × From r x

      parents : (r : ℕ) (ls : List Link) → r < n → ListsRest n (r ∷ []) ls → HasParents n r ls
      parents r ls lr h = record { first = lr; extends = h.extends; all = h.all }

      by : ((x : ℕ × List Link) → Some x → ⊥) ⊎ ((x : ℕ × List Link) × Some x × ((y : ℕ × List Link) → Some y → IsNoHeavier y.1 x.1))
          → (best : ℕ) × IsBest n w best
      by (inl none) = let best = from-root 0 (omega arith) in absurd (none (0, best.links) (0, omega arith, (refl, best.rest)))
      by (inr (x, (r, lr, (e, h)), most)) = (
        total w x.1,
        record {
          root = x.0;
          links = x.1;
          parents = parents x.0 x.1 (subst (λ z. z < n) (sym e) lr) h;
          has_it = refl;
          greatest = λ s ls k. most (s, ls) (s, k.first, (refl, record { extends = k.extends; all = k.all }));
        },
      )
