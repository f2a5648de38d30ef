-- The pairs of columns of a relation with one label.
use Rattle.std.proofs.Common.{◌≡◌, ◌≢◌, ◌∙◌, ◌<◌, ◌≤◌, ◌+◌, ◌⊎◌, ℕ, List, [], ◌∷◌, ◌++◌, length, get_or, inl, inr, refl, sym, ap, subst, arith}
use Rattle.std.proofs.lemmas.Bool.{cases_lt}
use Rattle.std.proofs.lemmas.List.Elements.{Contains-append_left, Contains-get_or, Contains-push, Contains-push_cases}
use Rattle.std.proofs.lemmas.List.Quantifiers.{all_pairs_push}
use Rattle.std.specs.Prelude.{Contains, SomeIndex}
use Rattle.column_classes.specs.Variables.{ArePairs, ComesBefore, IsLesserPair, IsLinkedPair, Linked, column_of}
use Rattle.column_classes.specs.Labels.{AreInOrder, AreLabels, ArePairsBefore, IsPairAt, IsPairBefore, column_at}
use Rattle.column_classes.specs.declared.columns.ColumnRef.{ColumnRef}
use Rattle.column_classes.specs.declared.columns.Equality.{Equality}
use Rattle.column_classes.specs.declared.classes.Labelled.{Labelled}
use Rattle.column_classes.proofs.PlaceFacts.{before-same, place-before, place-below}

module _ (places : List Labelled) (order : AreInOrder places) (r : ℕ) where
  -- the places before (a, b) and those before (c, d) give the same pairs
  pairs-same : (a b c d : ℕ) (pairs : List (ℕ × ℕ)) → ((p : ℕ × ℕ) → IsPairBefore places r a b p → IsPairBefore places r c d p) → ((p : ℕ × ℕ) → IsPairBefore places r c d p → IsPairBefore places r a b p)
      → ArePairsBefore places r a b pairs → ArePairsBefore places r c d pairs
  pairs-same a b c d pairs forth back h = record { rise = h.rise; members = λ p. ((λ s. forth p ((h.members p).0 s)), (λ s. (h.members p).1 (back p s))) }

  -- later places, with more pairs
  later : (a b c d : ℕ) → ((i j : ℕ) → IsLesserPair (i, j) (a, b) → IsLesserPair (i, j) (c, d)) → (p : ℕ × ℕ) → IsPairBefore places r a b p → IsPairBefore places r c d p
  later a b c d more p (i, li, (j, lj, (at, l))) = (i, li, (j, lj, (at, more i j l)))

  -- the same pairs, where what is between gives none
  earlier : (a b c d : ℕ) → ((i j : ℕ) (p : ℕ × ℕ) → i < length places → j < length places → IsPairAt places r i j p → IsLesserPair (i, j) (c, d) → IsLesserPair (i, j) (a, b))
      → (p : ℕ × ℕ) → IsPairBefore places r c d p → IsPairBefore places r a b p
  earlier a b c d fewer p (i, li, (j, lj, (at, l))) = (i, li, (j, lj, (at, fewer i j p li lj at l)))

  -- before all places
  pub pairs-none : ArePairsBefore places r 0 0 []
  pairs-none = record { rise = λ i j d h lt. absurd (omega arith); members = λ p. ((λ s. absurd (omega (arith, s.1))), back p) }
    where
      back : (p : ℕ × ℕ) → IsPairBefore places r 0 0 p → Contains [] p
      back p (i, li, (j, lj, (at, inl l))) = absurd (omega arith)
      back p (i, li, (j, lj, (at, inr l))) = absurd (omega (arith, l.1))

  -- a pair has its greater place second
  pub pairs-start : (a : ℕ) (pairs : List (ℕ × ℕ)) → ArePairsBefore places r a 0 pairs → ArePairsBefore places r a (a + 1) pairs
  pairs-start a pairs h = pairs-same a 0 a (a + 1) pairs (later a 0 a (a + 1) more) (earlier a 0 a (a + 1) fewer) h
    where
      more : (i j : ℕ) → IsLesserPair (i, j) (a, 0) → IsLesserPair (i, j) (a, a + 1)
      more i j (inl l) = inl l
      more i j (inr l) = absurd (omega (arith, l.1))

      fewer : (i j : ℕ) (p : ℕ × ℕ) → i < length places → j < length places → IsPairAt places r i j p → IsLesserPair (i, j) (a, a + 1) → IsLesserPair (i, j) (a, 0)
      fewer i j p li lj at (inl l) = inl l
      fewer i j p li lj at (inr l) = absurd (omega (arith, at.0, l.0, l.1))

  -- all pairs with the column at a were gone through
  pub pairs-end : (a b : ℕ) (pairs : List (ℕ × ℕ)) → length places ≤ b → ArePairsBefore places r a b pairs → ArePairsBefore places r (a + 1) 0 pairs
  pairs-end a b pairs long h = pairs-same a b (a + 1) 0 pairs (later a b (a + 1) 0 more) (earlier a b (a + 1) 0 fewer) h
    where
      more : (i j : ℕ) → IsLesserPair (i, j) (a, b) → IsLesserPair (i, j) (a + 1, 0)
      more i j (inl l) = inl (omega (arith, l))
      more i j (inr l) = inl (omega (arith, l.0))

      by : (i j : ℕ) → i < a + 1 → j < length places → (i < a) ⊎ (a ≤ i) → IsLesserPair (i, j) (a, b)
      by i j l lj (inl g) = inl g
      by i j l lj (inr g) = inr (omega arith, omega arith)

      fewer : (i j : ℕ) (p : ℕ × ℕ) → i < length places → j < length places → IsPairAt places r i j p → IsLesserPair (i, j) (a + 1, 0) → IsLesserPair (i, j) (a, b)
      fewer i j p li lj at (inl l) = by i j l lj (cases_lt i a)
      fewer i j p li lj at (inr l) = absurd (omega (arith, l.1))

  -- the column at a is of another relation
  pub pairs-pass : (a : ℕ) (pairs : List (ℕ × ℕ)) → (column_at places a).relation ≢ r → ArePairsBefore places r a 0 pairs → ArePairsBefore places r (a + 1) 0 pairs
  pairs-pass a pairs n h = pairs-same a 0 (a + 1) 0 pairs (later a 0 (a + 1) 0 more) (earlier a 0 (a + 1) 0 fewer) h
    where
      more : (i j : ℕ) → IsLesserPair (i, j) (a, 0) → IsLesserPair (i, j) (a + 1, 0)
      more i j (inl l) = inl (omega (arith, l))
      more i j (inr l) = absurd (omega (arith, l.1))

      by : (i j : ℕ) (p : ℕ × ℕ) → i < a + 1 → IsPairAt places r i j p → (i < a) ⊎ (a ≤ i) → IsLesserPair (i, j) (a, 0)
      by i j p l at (inl g) = inl g
      by i j p l at (inr g) = let e : a ≡ i = omega arith in absurd (n (ap (λ x. (column_at places x).relation) e ∙ ap (λ (c : ColumnRef). c.relation) at.2))

      fewer : (i j : ℕ) (p : ℕ × ℕ) → i < length places → j < length places → IsPairAt places r i j p → IsLesserPair (i, j) (a + 1, 0) → IsLesserPair (i, j) (a, 0)
      fewer i j p li lj at (inl l) = by i j p l at (cases_lt i a)
      fewer i j p li lj at (inr l) = absurd (omega (arith, l.1))

  module _ (a b : ℕ) (pairs : List (ℕ × ℕ)) (h : ArePairsBefore places r a b pairs) (la : a < length places) (lb : b < length places) where
    wider : (i j : ℕ) → IsLesserPair (i, j) (a, b) → IsLesserPair (i, j) (a, b + 1)
    wider i j (inl l) = inl l
    wider i j (inr l) = inr (l.0, omega (arith, l.1))

    -- the columns at a and b are no pair
    pub pairs-skip : ((p : ℕ × ℕ) → IsPairAt places r a b p → ⊥) → ArePairsBefore places r a (b + 1) pairs
    pairs-skip none = pairs-same a b a (b + 1) pairs (later a b a (b + 1) wider) (earlier a b a (b + 1) fewer) h
      where
        by : (i j : ℕ) (p : ℕ × ℕ) → IsPairAt places r i j p → i ≡ a → j < b + 1 → (j < b) ⊎ (b ≤ j) → IsLesserPair (i, j) (a, b)
        by i j p at e l (inl g) = inr (e, g)
        by i j p at e l (inr g) =
            let f : j ≡ b = omega arith in
            let P : ℕ → Type 0 = λ x. IsPairAt places r x j p in
            let Q : ℕ → Type 0 = λ x. IsPairAt places r a x p in
            absurd (none p (subst Q f (subst P e at)))

        fewer : (i j : ℕ) (p : ℕ × ℕ) → i < length places → j < length places → IsPairAt places r i j p → IsLesserPair (i, j) (a, b + 1) → IsLesserPair (i, j) (a, b)
        fewer i j p li lj at (inl l) = inl l
        fewer i j p li lj at (inr l) = by i j p at l.0 l.1 (cases_lt j b)

    -- the columns at a and b are a pair
    pub pairs-push : (q : ℕ × ℕ) → IsPairAt places r a b q → ArePairsBefore places r a (b + 1) (pairs ++ q ∷ [])
    pairs-push q at = record { rise = all_pairs_push IsLesserPair pairs q h.rise below; members = λ p. (forth p, back p) }
      where
        lesser : (p : ℕ × ℕ) → IsPairBefore places r a b p → IsLesserPair p q
        lesser p (i, li, (j, lj, (here, inl l))) = by (before-same (column_of r p.0) (column_of r q.0) _ _ (sym here.2) (sym at.2) (place-before places order.rise i a l la))
          where
            by : ComesBefore (column_of r p.0) (column_of r q.0) → IsLesserPair p q
            by (inl g) = absurd (omega arith)
            by (inr g) = inl g.1
        lesser p (i, li, (j, lj, (here, inr l))) =
            by (before-same (column_of r p.1) (column_of r q.1) _ _ (sym here.3) (sym at.3) (place-before places order.rise j b l.1 lb))
          where
            same : p.0 ≡ q.0
            same = ap (λ (c : ColumnRef). c.column) (sym here.2 ∙ ap (column_at places) l.0 ∙ at.2)

            by : ComesBefore (column_of r p.1) (column_of r q.1) → IsLesserPair p q
            by (inl g) = absurd (omega arith)
            by (inr g) = inr (same, g.1)

        below : (k : ℕ) (d : ℕ × ℕ) → k < length pairs → IsLesserPair (get_or pairs k d) q
        below k d lt = lesser (get_or pairs k d) ((h.members (get_or pairs k d)).0 (Contains-get_or pairs k d lt))

        forth : (p : ℕ × ℕ) → Contains (pairs ++ q ∷ []) p → IsPairBefore places r a (b + 1) p
        forth p s = by (Contains-push_cases pairs q p s)
          where
            by : Contains pairs p ⊎ (q ≡ p) → IsPairBefore places r a (b + 1) p
            by (inl t) = later a b a (b + 1) wider p ((h.members p).0 t)
            by (inr t) = let P : ℕ × ℕ → Type 0 = IsPairBefore places r a (b + 1) in subst P t (a, la, (b, lb, (at, inr (refl, omega arith))))

        back : (p : ℕ × ℕ) → IsPairBefore places r a (b + 1) p → Contains (pairs ++ q ∷ []) p
        back p (i, li, (j, lj, (here, inl l))) = Contains-append_left pairs (q ∷ []) p ((h.members p).1 (i, li, (j, lj, (here, inl l))))
        back p (i, li, (j, lj, (here, inr l))) = by (cases_lt j b)
          where
            by : (j < b) ⊎ (b ≤ j) → Contains (pairs ++ q ∷ []) p
            by (inl g) = Contains-append_left pairs (q ∷ []) p ((h.members p).1 (i, li, (j, lj, (here, inr (l.0, g)))))
            by (inr g) =
                let e : j ≡ b = omega (arith, l.1) in
                let first : q.0 ≡ p.0 = ap (λ (c : ColumnRef). c.column) (sym at.2 ∙ ap (column_at places) (sym l.0) ∙ here.2) in
                let second : q.1 ≡ p.1 = ap (λ (c : ColumnRef). c.column) (sym at.3 ∙ ap (column_at places) (sym e) ∙ here.3) in
                let same : q ≡ p = pair-same q p first second in
                let P : ℕ × ℕ → Type 0 = Contains (pairs ++ q ∷ []) in
                subst P same (Contains-push pairs q)
              where
                pair-same : (x y : ℕ × ℕ) → x.0 ≡ y.0 → x.1 ≡ y.1 → x ≡ y
                pair-same x y f g = rw (f, g) refl

module _ (widths : List ℕ) (equalities : List Equality) (places : List Labelled) (known : AreLabels widths equalities places) where
  -- the pairs with one label are the pairs that are linked
  pub pairs-are : (r a : ℕ) (pairs : List (ℕ × ℕ)) → length places ≤ a → ArePairsBefore places r a 0 pairs → ArePairs widths equalities r pairs
  pairs-are r a pairs long h = record { rise = h.rise; members = λ i j. ((λ s. forth i j ((h.members (i, j)).0 s)), (λ s. (h.members (i, j)).1 (back i j s))) }
    where
      forth : (i j : ℕ) → IsPairBefore places r a 0 (i, j) → IsLinkedPair widths equalities r i j
      forth i j (x, lx, (y, ly, (at, l))) = (
        by (before-same (column_of r i) (column_of r j) _ _ (sym at.2) (sym at.3) (place-before places known.order.rise x y at.0 ly)),
        (known.columns (column_of r i)).0 (x, lx, at.2),
        (known.columns (column_of r j)).0 (y, ly, at.3),
        rw (← at.2, ← at.3) ((known.linked x lx y ly).0 at.1),
      )
        where
          by : ComesBefore (column_of r i) (column_of r j) → i < j
          by (inl g) = absurd (omega arith)
          by (inr g) = g.1

      back : (i j : ℕ) → IsLinkedPair widths equalities r i j → IsPairBefore places r a 0 (i, j)
      back i j (lt, ic, jc, link) = by ((known.columns (column_of r i)).1 ic) ((known.columns (column_of r j)).1 jc)
        where
          by : SomeIndex places (λ x. column_at places x ≡ column_of r i) → SomeIndex places (λ y. column_at places y ≡ column_of r j) → IsPairBefore places r a 0 (i, j)
          by (x, lx, e) (y, ly, f) =
              let before : ComesBefore (column_at places x) (column_at places y) = before-same _ _ (column_of r i) (column_of r j) e f (inr (refl, lt)) in
              let here : Linked equalities (column_at places x) (column_at places y) = rw (e, f) link in
              (x, lx, (y, ly, ((place-below places known.order.rise x y lx ly before, (known.linked x lx y ly).1 here, e, f), inl (omega arith))))
