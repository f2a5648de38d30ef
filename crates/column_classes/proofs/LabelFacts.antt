-- The labels are made: each column apart, and then class by class.
use Rattle.std.proofs.Common.{◌≡◌, ◌≢◌, ◌<◌, ◌≤◌, ◌+◌, ◌⊎◌, ◌∙◌, ℕ, List, [], ◌∷◌, ◌++◌, length, map, get_or, inl, inr, refl, sym, ap, subst, arith, length-append, max, min}
use Rattle.std.proofs.lemmas.List.{get_or-map, get_or_default, length-map}
use Rattle.std.proofs.lemmas.Bool.{cases_eq, cases_lt, eq-eqb, ne_eqb}
use Rattle.std.proofs.lemmas.List.Elements.{Contains-get_or}
use Rattle.std.proofs.lemmas.List.Quantifiers.{all_pairs_push}
use Rattle.std.specs.Prelude.{Any, SomeIndex, ◌↔◌, slice_index}
use Rattle.column_classes.specs.Variables.{AreEqualities, AreWidths, ComesBefore, IsColumn, Linked, Itself, Written, Back, Chain, column_of}
use Rattle.column_classes.specs.Labels.{AreInOrder, AreLabels, AreOwnLabels, column_at, label_at, merged}
use Rattle.column_classes.specs.declared.columns.ColumnRef.{ColumnRef}
use Rattle.column_classes.specs.declared.columns.Equality.{Equality}
use Rattle.column_classes.specs.declared.classes.Labelled.{Labelled}
use Rattle.column_classes.proofs.PlaceFacts.{Rise, cases-below, column-kept, column-read, column-last, column-same, before-same, label-kept, label-index, label-last, place-before, place-same, no_place}

-- no column is before the first of the first relation
pub own-none : (widths : List ℕ) → AreOwnLabels widths 0 0 []
own-none widths = record {
  rise = λ i j d h lt. absurd (omega arith);
  columns = λ a. ((λ s. absurd (omega (arith, s.1))), (λ s. absurd (none a s.1)));
  own = λ i lt. absurd (omega arith);
  few = omega arith;
}
  where
    none : (a : ColumnRef) → ComesBefore a (column_of 0 0) → ⊥
    none a (inl h) = omega arith
    none a (inr h) = omega arith

module _ (widths : List ℕ) where
  -- the next column of a relation
  pub own-push : (r c : ℕ) (places : List Labelled) → r < length widths → c < slice_index widths r → AreOwnLabels widths r c places
      → AreOwnLabels widths r (c + 1) (places ++ record { column = column_of r c; label = length places } ∷ [])
  own-push r c places lr lc h = record {
    rise = all_pairs_push (λ p q. ComesBefore p.column q.column) places new h.rise below;
    columns = λ a. (forth a, back a);
    own = own;
    few = omega (arith, h.few, longer);
  }
    where
      new : Labelled
      new = record { column = column_of r c; label = length places }

      longer : length (places ++ new ∷ []) ≡ length places + 1
      longer = length-append places (new ∷ [])

      below : (k : ℕ) (d : Labelled) → k < length places → ComesBefore (get_or places k d).column (column_of r c)
      below k d lt =
          let P : ColumnRef → Type 0 = λ a. ComesBefore a (column_of r c) in
          subst P (sym (column-read places k d lt)) ((h.columns (column_at places k)).0 (k, lt, refl)).1

      earlier : (a : ColumnRef) → ComesBefore a (column_of r c) → ComesBefore a (column_of r (c + 1))
      earlier a (inl g) = inl g
      earlier a (inr g) = inr (g.0, omega (arith, g.1))

      forth : (a : ColumnRef) → SomeIndex (places ++ new ∷ []) (λ i. column_at (places ++ new ∷ []) i ≡ a) → IsColumn widths a × ComesBefore a (column_of r (c + 1))
      forth a (i, lt, e) = by (cases-below i (length places) (omega (arith, longer)))
        where
          by : (i < length places) ⊎ (length places ≡ i) → IsColumn widths a × ComesBefore a (column_of r (c + 1))
          by (inl l) = let s = (h.columns a).0 (i, l, sym (column-kept places new i l) ∙ e) in (s.0, earlier a s.1)
          by (inr l) =
              let P : ColumnRef → Type 0 = λ b. IsColumn widths b × ComesBefore b (column_of r (c + 1)) in
              subst P (sym (column-last places new i l) ∙ e) ((lr, lc), inr (refl, omega arith))

      kept : (a : ColumnRef) → SomeIndex places (λ i. column_at places i ≡ a) → SomeIndex (places ++ new ∷ []) (λ i. column_at (places ++ new ∷ []) i ≡ a)
      kept a (i, lt, e) = (i, omega (arith, longer), column-kept places new i lt ∙ e)

      back : (a : ColumnRef) → IsColumn widths a × ComesBefore a (column_of r (c + 1)) → SomeIndex (places ++ new ∷ []) (λ i. column_at (places ++ new ∷ []) i ≡ a)
      back a (is, inl g) = kept a ((h.columns a).1 (is, inl g))
      back a (is, inr g) = by (cases_lt a.column c)
        where
          by : (a.column < c) ⊎ (c ≤ a.column) → SomeIndex (places ++ new ∷ []) (λ i. column_at (places ++ new ∷ []) i ≡ a)
          by (inl l) = kept a ((h.columns a).1 (is, inr (g.0, l)))
          by (inr l) = (length places, omega (arith, longer), column-last places new (length places) refl ∙ column-same (column_of r c) a (sym g.0) (omega (arith, g.1)))

      own : (i : ℕ) → i < length (places ++ new ∷ []) → label_at (places ++ new ∷ []) i ≡ i
      own i lt = by (cases-below i (length places) (omega (arith, longer)))
        where
          by : (i < length places) ⊎ (length places ≡ i) → label_at (places ++ new ∷ []) i ≡ i
          by (inl l) = label-kept places new i l ∙ h.own i l
          by (inr l) = label-last places new i l ∙ l

  -- all columns of a relation are there
  pub own-next : (r c : ℕ) (places : List Labelled) → slice_index widths r ≤ c → c ≤ 64 → AreOwnLabels widths r c places → AreOwnLabels widths (r + 1) 0 places
  own-next r c places full narrow h = record {
    rise = h.rise;
    columns = λ a. ((λ s. (((h.columns a).0 s).0, later a ((h.columns a).0 s).1)), (λ s. (h.columns a).1 (s.0, before a s.0 s.1)));
    own = h.own;
    few = omega (arith, h.few);
  }
    where
      later : (a : ColumnRef) → ComesBefore a (column_of r c) → ComesBefore a (column_of (r + 1) 0)
      later a (inl g) = inl (omega (arith, g))
      later a (inr g) = inl (omega (arith, g.0))

      before : (a : ColumnRef) → IsColumn widths a → ComesBefore a (column_of (r + 1) 0) → ComesBefore a (column_of r c)
      before a s (inl g) = by (cases_lt a.relation r)
        where
          by : (a.relation < r) ⊎ (r ≤ a.relation) → ComesBefore a (column_of r c)
          by (inl l) = inl l
          by (inr l) =
              let e : a.relation ≡ r = omega arith in
              let P : ℕ → Type 0 = λ x. a.column < slice_index widths x in
              let lt : a.column < slice_index widths r = subst P e s.1 in
              inr (e, omega arith)
      before a s (inr g) = absurd (omega (arith, g.1))

-- a label that is merged, and one that is not
pub merged-yes : (left right : ℕ) (p : Labelled) → p.label ≡ max left right → merged left right p ≡ record { column = p.column; label = min left right }
merged-yes left right p e = rw (eq-eqb p.label (max left right) e) refl

pub merged-no : (left right : ℕ) (p : Labelled) → p.label ≢ max left right → merged left right p ≡ p
merged-no left right p n = rw (ne_eqb p.label (max left right) n) refl

-- what is read past the end of the equalities
abbrev pub no_equality : Equality
no_equality = record { left = column_of 0 0; right = column_of 0 0 }

-- the labels after the first equalities: columns with one label are linked, and the two columns of each of those have one label
pub record AreMergedUpTo (widths : List ℕ) (equalities : List Equality) (done : ℕ) (places : List Labelled) : Type 0 where
  pub order : AreInOrder places
  pub columns : (a : ColumnRef) → SomeIndex places (λ i. column_at places i ≡ a) ↔ IsColumn widths a
  pub linked : (i j : ℕ) → i < length places → j < length places → label_at places i ≡ label_at places j → Linked equalities (column_at places i) (column_at places j)
  pub met : (m i j : ℕ) → m < done → i < length places → j < length places → column_at places i ≡ (get_or equalities m no_equality).left
      → column_at places j ≡ (get_or equalities m no_equality).right → label_at places i ≡ label_at places j

module _ (widths : List ℕ) (equalities : List Equality) where
  -- before the first equality
  pub merge-none : (places : List Labelled) → AreWidths widths → AreOwnLabels widths (length widths) 0 places → AreMergedUpTo widths equalities 0 places
  merge-none places w h = record {
    order = record { rise = h.rise; least = λ i lt. (omega (arith, h.own i lt), ap (label_at places) (h.own i lt)); few = omega (arith, h.few, w.few) };
    columns = λ a. ((λ s. ((h.columns a).0 s).0), (λ s. (h.columns a).1 (s, inl s.0)));
    linked = λ i j li lj e. same i j (sym (h.own i li) ∙ e ∙ h.own j lj);
    met = λ m i j lm li lj e f. absurd (omega arith);
  }
    where
      same : (i j : ℕ) → i ≡ j → Linked equalities (column_at places i) (column_at places j)
      same i j e = let P : ColumnRef → Type 0 = Linked equalities (column_at places i) in subst P (ap (column_at places) e) (Itself (column_at places i))

  module _ (places : List Labelled) (k a b : ℕ) (h : AreMergedUpTo widths equalities k places) (lk : k < length equalities)
      (la : a < length places) (lb : b < length places)
      (ea : column_at places a ≡ (get_or equalities k no_equality).left) (eb : column_at places b ≡ (get_or equalities k no_equality).right) where
    abbrev pub least : ℕ
    least = min (label_at places a) (label_at places b)

    abbrev pub greatest : ℕ
    greatest = max (label_at places a) (label_at places b)

    -- the labels after the equality: the greater is now the lesser
    pub record AreMergedLabels (new : List Labelled) : Type 0 where
      pub long : length new ≡ length places
      pub column : (i : ℕ) → i < length places → column_at new i ≡ column_at places i
      pub label : (i : ℕ) → i < length places → ((label_at places i ≡ greatest) × (label_at new i ≡ least)) ⊎ ((label_at places i ≢ greatest) × (label_at new i ≡ label_at places i))

    -- the least of the two labels is the label of its own place
    least-own : (label_at places least ≡ least) × (least ≤ greatest) × (least < length places)
    least-own = by (cases_lt (label_at places a) (label_at places b))
      where
        by : (label_at places a < label_at places b) ⊎ (label_at places b ≤ label_at places a) → (label_at places least ≡ least) × (least ≤ greatest) × (least < length places)
        by (inl l) =
            let e : min (label_at places a) (label_at places b) ≡ label_at places a = omega arith in
            (ap (label_at places) e ∙ (h.order.least a la).1 ∙ sym e, omega arith, omega (arith, (h.order.least a la).0))
        by (inr l) =
            let e : min (label_at places a) (label_at places b) ≡ label_at places b = omega arith in
            (ap (label_at places) e ∙ (h.order.least b lb).1 ∙ sym e, omega arith, omega (arith, (h.order.least b lb).0))

    -- a column with the label of a or b is linked with a
    to-left : (i : ℕ) → i < length places → (label_at places i ≡ greatest) ⊎ (label_at places i ≡ least) → Linked equalities (column_at places i) (column_at places a)
    to-left i li e = by (cases_eq (label_at places i) (label_at places a))
      where
        between : Linked equalities (column_at places b) (column_at places a)
        between =
            let written = Written (get_or equalities k no_equality) (Contains-get_or equalities k no_equality lk) in
            Back _ _ (rw (ea, eb) written)

        either : (label_at places i ≡ greatest) ⊎ (label_at places i ≡ least) → label_at places i ≢ label_at places a → label_at places i ≡ label_at places b
        either (inl f) n = omega arith
        either (inr f) n = omega arith

        by : (label_at places i ≡ label_at places a) ⊎ (label_at places i ≢ label_at places a) → Linked equalities (column_at places i) (column_at places a)
        by (inl f) = h.linked i a li la f
        by (inr f) = Chain _ (column_at places b) _ (h.linked i b li lb (either e f)) between

    pub merge-more : (new : List Labelled) → AreMergedLabels new → AreMergedUpTo widths equalities (k + 1) new
    merge-more new n = record {
      order = record { rise = rise; least = λ i lt. smallest i (omega (arith, n.long)); few = omega (arith, n.long, h.order.few) };
      columns = λ c. ((λ s. (h.columns c).0 (s.0, omega (arith, n.long, s.1), sym (n.column s.0 (omega (arith, n.long, s.1))) ∙ s.2)), (λ s. later c ((h.columns c).1 s)));
      linked = λ i j li lj e. linked i j (omega (arith, n.long)) (omega (arith, n.long)) e;
      met = λ m i j lm li lj e f. met m i j lm (omega (arith, n.long)) (omega (arith, n.long)) e f;
    }
      where
        rise : Rise new
        rise i j d lt lj =
            let ln : length new ≡ length places = n.long in
            before-same _ _ (column_at places i) (column_at places j) (column-read new i d (omega arith) ∙ n.column i (omega arith)) (column-read new j d lj ∙ n.column j (omega arith))
            (place-before places h.order.rise i j lt (omega arith))

        later : (c : ColumnRef) → SomeIndex places (λ i. column_at places i ≡ c) → SomeIndex new (λ i. column_at new i ≡ c)
        later c s = (s.0, omega (arith, n.long, s.1), n.column s.0 s.1 ∙ s.2)

        least-kept : label_at new least ≡ least
        least-kept = by (n.label least least-own.2)
          where
            by : ((label_at places least ≡ greatest) × (label_at new least ≡ least)) ⊎ ((label_at places least ≢ greatest) × (label_at new least ≡ label_at places least)) → label_at new least ≡ least
            by (inl f) = f.1
            by (inr f) = f.1 ∙ least-own.0

        smallest : (i : ℕ) → i < length places → (label_at new i ≤ i) × (label_at new (label_at new i) ≡ label_at new i)
        smallest i lt = by (n.label i lt)
          where
            below : label_at places i < length places
            below = omega (arith, (h.order.least i lt).0)

            by : ((label_at places i ≡ greatest) × (label_at new i ≡ least)) ⊎ ((label_at places i ≢ greatest) × (label_at new i ≡ label_at places i))
                → (label_at new i ≤ i) × (label_at new (label_at new i) ≡ label_at new i)
            by (inl (e, f)) = (omega (arith, e, f, least-own.1, (h.order.least i lt).0), ap (label_at new) f ∙ least-kept ∙ sym f)
            by (inr (e, f)) = (omega (arith, f, (h.order.least i lt).0), ap (label_at new) f ∙ kept (n.label (label_at places i) below) ∙ sym f)
              where
                kept : ((label_at places (label_at places i) ≡ greatest) × (label_at new (label_at places i) ≡ least)) ⊎ ((label_at places (label_at places i) ≢ greatest) × (label_at new (label_at places i) ≡ label_at places (label_at places i)))
                    → label_at new (label_at places i) ≡ label_at places i
                kept (inl g) = absurd (e (sym (h.order.least i lt).1 ∙ g.0))
                kept (inr g) = g.1 ∙ (h.order.least i lt).1

        linked : (i j : ℕ) → i < length places → j < length places → label_at new i ≡ label_at new j → Linked equalities (column_at new i) (column_at new j)
        linked i j li lj e = rw (n.column i li, n.column j lj) (by (n.label i li) (n.label j lj))
          where
            through : (label_at places i ≡ greatest) ⊎ (label_at places i ≡ least) → (label_at places j ≡ greatest) ⊎ (label_at places j ≡ least)
                → Linked equalities (column_at places i) (column_at places j)
            through f g = Chain _ (column_at places a) _ (to-left i li f) (Back _ _ (to-left j lj g))

            by : ((label_at places i ≡ greatest) × (label_at new i ≡ least)) ⊎ ((label_at places i ≢ greatest) × (label_at new i ≡ label_at places i))
                → ((label_at places j ≡ greatest) × (label_at new j ≡ least)) ⊎ ((label_at places j ≢ greatest) × (label_at new j ≡ label_at places j))
                → Linked equalities (column_at places i) (column_at places j)
            by (inl f) (inl g) = through (inl f.0) (inl g.0)
            by (inl f) (inr g) = through (inl f.0) (inr (sym g.1 ∙ sym e ∙ f.1))
            by (inr f) (inl g) = through (inr (sym f.1 ∙ e ∙ g.1)) (inl g.0)
            by (inr f) (inr g) = h.linked i j li lj (sym f.1 ∙ e ∙ g.1)

        still : (i j : ℕ) → i < length places → j < length places → label_at places i ≡ label_at places j → label_at new i ≡ label_at new j
        still i j li lj e = by (n.label i li) (n.label j lj)
          where
            by : ((label_at places i ≡ greatest) × (label_at new i ≡ least)) ⊎ ((label_at places i ≢ greatest) × (label_at new i ≡ label_at places i))
                → ((label_at places j ≡ greatest) × (label_at new j ≡ least)) ⊎ ((label_at places j ≢ greatest) × (label_at new j ≡ label_at places j))
                → label_at new i ≡ label_at new j
            by (inl f) (inl g) = f.1 ∙ sym g.1
            by (inl f) (inr g) = absurd (g.0 (sym e ∙ f.0))
            by (inr f) (inl g) = absurd (f.0 (e ∙ g.0))
            by (inr f) (inr g) = f.1 ∙ e ∙ sym g.1

        left-least : label_at new a ≡ least
        left-least = by (n.label a la)
          where
            by : ((label_at places a ≡ greatest) × (label_at new a ≡ least)) ⊎ ((label_at places a ≢ greatest) × (label_at new a ≡ label_at places a)) → label_at new a ≡ least
            by (inl f) = f.1
            by (inr f) = omega arith

        right-least : label_at new b ≡ least
        right-least = by (n.label b lb)
          where
            by : ((label_at places b ≡ greatest) × (label_at new b ≡ least)) ⊎ ((label_at places b ≢ greatest) × (label_at new b ≡ label_at places b)) → label_at new b ≡ least
            by (inl f) = f.1
            by (inr f) = omega arith

        met : (m i j : ℕ) → m < k + 1 → i < length places → j < length places → column_at new i ≡ (get_or equalities m no_equality).left
            → column_at new j ≡ (get_or equalities m no_equality).right → label_at new i ≡ label_at new j
        met m i j lm li lj e f = by (cases-below m k lm)
          where
            by : (m < k) ⊎ (k ≡ m) → label_at new i ≡ label_at new j
            by (inl l) = still i j li lj (h.met m i j l li lj (sym (n.column i li) ∙ e) (sym (n.column j lj) ∙ f))
            by (inr l) =
                let here = ap (λ x. get_or equalities x no_equality) l in
                let ia = place-same places h.order.rise i a li la (sym (n.column i li) ∙ e ∙ sym (ap (λ (q : Equality). q.left) here) ∙ sym ea) in
                let jb = place-same places h.order.rise j b lj lb (sym (n.column j lj) ∙ f ∙ sym (ap (λ (q : Equality). q.right) here) ∙ sym eb) in
                ap (label_at new) ia ∙ left-least ∙ sym right-least ∙ sym (ap (label_at new) jb)

  -- two columns that are one, or stand at places with one label
  pub data AreAlike (places : List Labelled) (c d : ColumnRef) : Type 0 where
    SameColumn : c ≡ d → AreAlike places c d
    SameLabel : (i j : ℕ) → i < length places → j < length places → column_at places i ≡ c → column_at places j ≡ d → label_at places i ≡ label_at places j → AreAlike places c d

  module _ (places : List Labelled) (k : ℕ) (h : AreMergedUpTo widths equalities k places) (all : length equalities ≤ k) (are : AreEqualities widths equalities) where
    -- columns that are linked are alike
    linked-alike : (c d : ColumnRef) → Linked equalities c d → AreAlike places c d
    linked-alike c d (Itself a) = SameColumn refl
    linked-alike c d (Written e (m, lt, is)) =
        let here = get_or_default equalities m no_equality e lt ∙ is in
        let two = are m e lt in
        let left = (h.columns (get_or equalities m e).left).1 two.0 in
        let right = (h.columns (get_or equalities m e).right).1 two.1 in
        let l = left.2 ∙ ap (λ (q : Equality). q.left) is in
        let r = right.2 ∙ ap (λ (q : Equality). q.right) is in
        SameLabel left.0 right.0 left.1 right.1 l r
        (h.met m left.0 right.0 (omega arith) left.1 right.1 (l ∙ sym (ap (λ (q : Equality). q.left) here)) (r ∙ sym (ap (λ (q : Equality). q.right) here)))
    linked-alike c d (Back a b l) = by (linked-alike a b l)
      where
        by : AreAlike places a b → AreAlike places b a
        by (SameColumn e) = SameColumn (sym e)
        by (SameLabel i j li lj ei ej e) = SameLabel j i lj li ej ei (sym e)
    linked-alike c d (Chain a b g l m) = by (linked-alike a b l) (linked-alike b g m)
      where
        by : AreAlike places a b → AreAlike places b g → AreAlike places a g
        by (SameColumn e) y = rw e y
        by (SameLabel i j li lj ei ej e) (SameColumn f) = SameLabel i j li lj ei (ej ∙ f) e
        by (SameLabel i j li lj ei ej e) (SameLabel x y lx ly ex ey f) =
            let same = place-same places h.order.rise j x lj lx (ej ∙ sym ex) in
            SameLabel i y li ly ei ey (e ∙ ap (label_at places) same ∙ f)

    -- after the last equality two columns have one label exactly if they are linked
    pub merge-all : AreLabels widths equalities places
    merge-all = record { order = h.order; columns = h.columns; linked = λ i li j lj. (h.linked i j li lj, λ l. by i j li lj (linked-alike _ _ l)) }
      where
        by : (i j : ℕ) → i < length places → j < length places → AreAlike places (column_at places i) (column_at places j) → label_at places i ≡ label_at places j
        by i j li lj (SameColumn e) = ap (label_at places) (place-same places h.order.rise i j li lj e)
        by i j li lj (SameLabel x y lx ly ex ey e) =
            let ix = place-same places h.order.rise i x li lx (sym ex) in
            let jy = place-same places h.order.rise j y lj ly (sym ey) in
            ap (label_at places) ix ∙ e ∙ sym (ap (label_at places) jy)

-- the greater of two labels is made the lesser everywhere
pub merged-labels : (places : List Labelled) (l r i : ℕ) → i < length places
    → ((label_at places i ≡ max l r) × (label_at (map (merged l r) places) i ≡ min l r)) ⊎ ((label_at places i ≢ max l r) × (label_at (map (merged l r) places) i ≡ label_at places i))
merged-labels places l r i lt = by (cases_eq (label_at places i) (max l r))
  where
    here : get_or (map (merged l r) places) i no_place ≡ merged l r (get_or places i no_place)
    here = get_or-map (merged l r) places i no_place no_place lt

    by : (label_at places i ≡ max l r) ⊎ (label_at places i ≡ max l r → ⊥)
        → ((label_at places i ≡ max l r) × (label_at (map (merged l r) places) i ≡ min l r)) ⊎ ((label_at places i ≢ max l r) × (label_at (map (merged l r) places) i ≡ label_at places i))
    by (inl e) = inl (e, ap (λ (q : Labelled). q.label) (here ∙ merged-yes l r (get_or places i no_place) e))
    by (inr e) = inr (e, ap (λ (q : Labelled). q.label) (here ∙ merged-no l r (get_or places i no_place) e))

pub merged-columns : (places : List Labelled) (l r i : ℕ) → i < length places → column_at (map (merged l r) places) i ≡ column_at places i
merged-columns places l r i lt = ap (λ (q : Labelled). q.column) (get_or-map (merged l r) places i no_place no_place lt)

-- one equality more
pub merge-next : (widths : List ℕ) (equalities : List Equality) (places : List Labelled) (k l r : ℕ) → AreMergedUpTo widths equalities k places → k < length equalities
    → Any (λ p. (p.column ≡ (get_or equalities k no_equality).left) × (p.label ≡ l)) places
    → Any (λ p. (p.column ≡ (get_or equalities k no_equality).right) × (p.label ≡ r)) places
    → AreMergedUpTo widths equalities (k + 1) (map (merged l r) places)
merge-next widths equalities places k l r h lk left right =
    let x = label-index places (get_or equalities k no_equality).left l left in
    let y = label-index places (get_or equalities k no_equality).right r right in
    rw (← x.2.1, ← y.2.1) (merge-more widths equalities places k x.0 y.0 h lk x.1 y.1 x.2.0 y.2.0 (map (merged (label_at places x.0) (label_at places y.0)) places) (record {
      long = length-map places (merged (label_at places x.0) (label_at places y.0));
      column = λ i lt. merged-columns places (label_at places x.0) (label_at places y.0) i lt;
      label = λ i lt. merged-labels places (label_at places x.0) (label_at places y.0) i lt;
    }))
