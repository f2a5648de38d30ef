-- There is a greedy list for each chain of sets.
use Rattle.std.proofs.Common.{◌≡◌, ℕ, zero, suc, ◌<◌, ◌≤◌, Bool, true, false, ◌⊎◌, List, [], ◌∷◌, ◌++◌, length, refl, sym, ap, ◌∙◌, subst, inl, inr, arith}
use Rattle.std.proofs.lemmas.Bool.{both_ways, cases_Bool, cases_order}
use Rattle.join_graph.specs.declared.tree.Link.{Link}
use Rattle.join_graph.specs.JoinList.{listed_by}
use Rattle.rpt_base.specs.Lists.{has}
use Rattle.join_graph.proofs.BestOf.{HasBest, best-below}
use Rattle.join_graph.proofs.ListFacts.{extends-below, listed_by-kept, only-more, only-root}
use Rattle.rpt_base.proofs.MemberFacts.{has-head}
use Rattle.join_graph.proofs.Unlisted.{unlisted, unlisted-less}
use Rattle.largest_root.specs.Greedy.{NotBefore, Greedy, GreedyChain, IsGreedyList, IsLargest}
use Rattle.largest_root.proofs.GreatestFacts.{extends_from_greedy}
use Rattle.largest_root.proofs.ListedFacts.{NotBefore-trans}

-- the sets hold no relation beyond n
abbrev pub AreBelow : ℕ → List (ℕ → Bool) → Type 0
AreBelow n [] = Unit {0}
AreBelow n (set ∷ sets) = ((r : ℕ) → set r ≡ true → r < n) × AreBelow n sets

module _ (w : ℕ → ℕ → ℕ) (size : ℕ → ℕ) where
  -- of two pairs one does not come before the other
  not_before-either : (i j c p : ℕ) → NotBefore w size i j c p ⊎ NotBefore w size c p i j
  not_before-either i j c p = by (cases_order (w i j) (w c p)) (cases_order (size i) (size c)) (cases_order i c) (cases_order j p)
    where
      by : ((w i j ≡ w c p) ⊎ ((w i j < w c p) ⊎ (w c p < w i j))) → ((size i ≡ size c) ⊎ ((size i < size c) ⊎ (size c < size i)))
          → ((i ≡ c) ⊎ ((i < c) ⊎ (c < i))) → ((j ≡ p) ⊎ ((j < p) ⊎ (p < j))) → NotBefore w size i j c p ⊎ NotBefore w size c p i j
      by (inr (inl l)) _ _ _ = inl (inl l)
      by (inr (inr l)) _ _ _ = inr (inl l)
      by (inl e) (inr (inl l)) _ _ = inl (inr (e, inl l))
      by (inl e) (inr (inr l)) _ _ = inr (inr (sym e, inl l))
      by (inl e) (inl f) (inr (inl l)) _ = inr (inr (sym e, inr (sym f, inl l)))
      by (inl e) (inl f) (inr (inr l)) _ = inl (inr (e, inr (f, inl l)))
      by (inl e) (inl f) (inl g) (inr (inl l)) = inr (inr (sym e, inr (sym f, inr (g, omega arith))))
      by (inl e) (inl f) (inl g) (inr (inr l)) = inl (inr (e, inr (f, inr (sym g, omega arith))))
      by (inl e) (inl f) (inl g) (inl h) = inl (inr (e, inr (f, inr (sym g, omega arith))))

  -- of two relations one is as large and as late
  abbrev IsNoLarger : ℕ → ℕ → Type 0
  IsNoLarger i r = (size i < size r) ⊎ ((size i ≡ size r) × (r ≤ i))

  larger-trans : (i j k : ℕ) → IsNoLarger i j → IsNoLarger j k → IsNoLarger i k
  larger-trans i j k (inl a) (inl b) = inl (omega arith)
  larger-trans i j k (inl a) (inr (e, b)) = inl (omega arith)
  larger-trans i j k (inr (e, a)) (inl b) = inl (omega arith)
  larger-trans i j k (inr (e, a)) (inr (f, b)) = inr (omega arith, omega arith)

  larger-either : (i j : ℕ) → IsNoLarger i j ⊎ IsNoLarger j i
  larger-either i j = by (cases_order (size i) (size j)) (cases_order i j)
    where
      by : ((size i ≡ size j) ⊎ ((size i < size j) ⊎ (size j < size i))) → ((i ≡ j) ⊎ ((i < j) ⊎ (j < i))) → IsNoLarger i j ⊎ IsNoLarger j i
      by (inr (inl l)) _ = inl (inl l)
      by (inr (inr l)) _ = inr (inl l)
      by (inl e) (inr (inl l)) = inr (inr (sym e, omega arith))
      by (inl e) (inr (inr l)) = inl (inr (e, omega arith))
      by (inl e) (inl f) = inl (inr (e, omega arith))

  abbrev IsNoEarlier : Link → Link → Type 0
  IsNoEarlier l m = NotBefore w size l.child l.parent m.child m.parent

  earlier-trans : (l m k : Link) → IsNoEarlier l m → IsNoEarlier m k → IsNoEarlier l k
  earlier-trans l m k a b = NotBefore-trans w size l.child l.parent m.child m.parent k.child k.parent a b

  earlier-either : (l m : Link) → IsNoEarlier l m ⊎ IsNoEarlier m l
  earlier-either l m = not_before-either l.child l.parent m.child m.parent

  module _ (n : ℕ) (set : ℕ → Bool) (below : (r : ℕ) → set r ≡ true → r < n) where
    -- a set that is not empty has a largest relation
    largest-there : (r : ℕ) → set r ≡ true → (root : ℕ) × IsLargest size set root
    largest-there r inside = by (best-below IsNoLarger larger-trans larger-either n (λ k x. (x ≡ k) × (set x ≡ true)) (λ k lk. one k (cases_Bool (set k))))
      where
        one : (k : ℕ) → (set k ≡ true) ⊎ (set k ≡ false) → HasBest IsNoLarger larger-trans larger-either (λ x. (x ≡ k) × (set x ≡ true))
        one k (inl on) = inr (k, (refl, on), λ y h. inr (ap size h.0, omega (arith, h.0)))
        one k (inr off) = inl (λ x h. both_ways (set k) off (ap set (sym h.0) ∙ h.1))

        Some : ℕ → Type 0
        Some x = (k : ℕ) × (k < n) × ((x ≡ k) × (set x ≡ true))

        by : ((x : ℕ) → Some x → ⊥) ⊎ ((x : ℕ) × Some x × ((y : ℕ) → Some y → IsNoLarger y x)) → (root : ℕ) × IsLargest size set root
        by (inl none) = absurd (none r (r, below r inside, (refl, inside)))
        by (inr (x, (k, lk, (e, on)), most)) = (x, (on, λ i s. most i (i, below i s, (refl, s))))

    -- a link from a relation of the set that is not listed to one that is
    record IsOpenAt (listed : List ℕ) (i j : ℕ) (l : Link) : Type 0 where
      pub in_set : set i ≡ true
      pub fresh : has i listed ≡ false
      pub shown : has j listed ≡ true
      pub is : l ≡ record { child = i; parent = j }

    abbrev OpenBelow : List ℕ → Link → Type 0
    OpenBelow listed l = (i : ℕ) × (i < n) × ((j : ℕ) × (j < n) × IsOpenAt listed i j l)

    -- there is no open link, or a first one
    first-open : (listed : List ℕ) → HasBest IsNoEarlier earlier-trans earlier-either (OpenBelow listed)
    first-open listed =
        best-below IsNoEarlier earlier-trans earlier-either n (λ i l. (j : ℕ) × (j < n) × IsOpenAt listed i j l)
        (λ i li. best-below IsNoEarlier earlier-trans earlier-either n (λ j. IsOpenAt listed i j)
        (λ j lj. one i j (cases_Bool (set i)) (cases_Bool (has i listed)) (cases_Bool (has j listed))))
      where
        one : (i j : ℕ) → (set i ≡ true) ⊎ (set i ≡ false) → (has i listed ≡ true) ⊎ (has i listed ≡ false) → (has j listed ≡ true) ⊎ (has j listed ≡ false)
            → HasBest IsNoEarlier earlier-trans earlier-either (IsOpenAt listed i j)
        one i j (inr off) _ _ = inl (λ l h. both_ways _ off h.in_set)
        one i j _ (inl on) _ = inl (λ l h. both_ways _ h.fresh on)
        one i j _ _ (inr off) = inl (λ l h. both_ways _ off h.shown)
        one i j (inl s) (inr f) (inl k) =
            inr (
              record { child = i; parent = j },
              record { in_set = s; fresh = f; shown = k; is = refl },
              λ l h. subst (λ z. IsNoEarlier z (record { child = i; parent = j })) (sym h.is) (inr (refl, inr (refl, inr (refl, omega arith)))),
            )

    greedy-step : (listed : List ℕ) → ((r : ℕ) → has r listed ≡ true → r < n) → (p : ℕ) → has p listed ≡ true
        → ((i : ℕ) → i < n → has i listed ≡ false → (ls : List Link) × Greedy w size set (i ∷ listed) ls) → (ls : List Link) × Greedy w size set listed ls
    greedy-step listed known p shown next = by (first-open listed)
      where
        by : ((l : Link) → OpenBelow listed l → ⊥) ⊎ ((l : Link) × OpenBelow listed l × ((m : Link) → OpenBelow listed m → IsNoEarlier m l))
            → (ls : List Link) × Greedy w size set listed ls
        by (inl none) = ([], all)
          where
            all : (r : ℕ) → set r ≡ true → has r listed ≡ true
            all r s = elim (cases_Bool (has r listed)) [
              | inl on ↦ on
              | inr off ↦ absurd (none (record { child = r; parent = p }) (r, below r s, (p, known p shown, record { in_set = s; fresh = off; shown = shown; is = refl })))
            ]
        by (inr (l, (i, li, (j, lj, h)), most)) =
            let c : l.child ≡ i = ap (λ (z : Link). z.child) h.is in
            let q : l.parent ≡ j = ap (λ (z : Link). z.parent) h.is in
            let fresh : has l.child listed ≡ false = ap (λ z. has z listed) c ∙ h.fresh in
            let rest = next l.child (omega arith) fresh in (
              l ∷ rest.0,
              (
                ap set c ∙ h.in_set,
                fresh,
                ap (λ z. has z listed) q ∙ h.shown,
                (λ a b s f k. most (record { child = a; parent = b }) (a, below a s, (b, known b k, record { in_set = s; fresh = f; shown = k; is = refl }))),
                rest.1,
              ),
            )

    greedy-steps : (k : ℕ) (listed : List ℕ) → ((r : ℕ) → has r listed ≡ true → r < n) → (p : ℕ) → has p listed ≡ true → length (unlisted n listed) ≤ k
        → (ls : List Link) × Greedy w size set listed ls
    greedy-steps zero listed known p shown few = greedy-step listed known p shown (λ i li fresh. absurd (omega (arith, unlisted-less n i listed li fresh)))
    greedy-steps (suc k) listed known p shown few =
        greedy-step listed known p shown
        (λ i li fresh. greedy-steps k (i ∷ listed) (only-more (λ z. z < n) i listed li known) i (has-head i listed) (omega (arith, unlisted-less n i listed li fresh)))

    greedy-there : (listed : List ℕ) → ((r : ℕ) → has r listed ≡ true → r < n) → (p : ℕ) → has p listed ≡ true → (ls : List Link) × Greedy w size set listed ls
    greedy-there listed known p shown = greedy-steps (length (unlisted n listed)) listed known p shown (omega arith)

  module _ (n : ℕ) where
    chain-there : (sets : List (ℕ → Bool)) → AreBelow n sets → (listed : List ℕ) → ((r : ℕ) → has r listed ≡ true → r < n) → (p : ℕ) → has p listed ≡ true
        → (ls : List Link) × GreedyChain w size sets listed ls
    chain-there [] below listed known p shown = ([], refl)
    chain-there (set ∷ sets) below listed known p shown =
        let front = greedy-there n set below.0 listed known p shown in
        let back =
        chain-there sets below.1 (listed_by listed front.0)
        (extends-below n listed front.0 (extends_from_greedy w size n set listed front.0 below.0 front.1) known) p (listed_by-kept p listed front.0 shown) in
        (front.0 ++ back.0, (front.0, back.0, refl, front.1, back.1))

    -- the greedy list for a chain of sets of which the first is not empty
    pub list-there : (set : ℕ → Bool) (sets : List (ℕ → Bool)) → AreBelow n (set ∷ sets) → (r : ℕ) → set r ≡ true
        → (root : ℕ) × (links : List Link) × IsGreedyList w size set sets root links
    list-there set sets below r inside =
        let first = largest-there n set below.0 r inside in
        let links = chain-there (set ∷ sets) below (first.0 ∷ []) (only-root (λ z. z < n) first.0 (below.0 first.0 first.1.0)) first.0 (has-head first.0 []) in
        (first.0, links.0, (first.1, links.1))
