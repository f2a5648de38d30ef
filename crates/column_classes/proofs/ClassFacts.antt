-- The columns of each label, and the variables.
use Rattle.std.proofs.Common.{◌≡◌, ◌≢◌, ◌∙◌, ◌<◌, ◌≤◌, ◌+◌, ◌⊎◌, ℕ, zero, suc, List, [], ◌∷◌, ◌++◌, length, get_or, inl, inr, refl, sym, ap, subst, arith, length-append}
use Rattle.std.proofs.lemmas.List.Elements.{All-push, All-weaker, Contains-append_left, Contains-get_or, Contains-push, Contains-push_cases}
use Rattle.std.proofs.lemmas.List.Quantifiers.{all_pairs_push}
use Rattle.std.specs.Prelude.{Any, Contains, SomeIndex}
use Rattle.column_classes.specs.Variables.{AreOfTwoRelations, AreVariables, BeginsBefore, ComesBefore, IsClass, IsColumn, Linked}
use Rattle.column_classes.specs.Labels.{AreByLabel, AreInOrder, AreLabels, AreOfLabel, IsVariableBelow, column_at, label_at}
use Rattle.column_classes.specs.declared.columns.ColumnRef.{ColumnRef}
use Rattle.column_classes.specs.declared.columns.Equality.{Equality}
use Rattle.column_classes.specs.declared.classes.Labelled.{Labelled}
use Rattle.column_classes.proofs.PlaceFacts.{before-same, cases-below, place-before, place-below}

-- an element that has a property
any-from : {X : Type 0} (P : X → Type 0) (xs : List X) (x : X) → Contains xs x → P x → Any P xs
any-from P xs x (k, lt, is) p = (k, x, lt, is, p)

-- and the element of an `Any`
any-contains : {X : Type 0} (P : X → Type 0) (xs : List X) → Any P xs → (x : X) × Contains xs x × P x
any-contains P xs (k, x, lt, is, p) = (x, (k, lt, is), p)

-- two columns of a list that are of different relations
two-from : (columns : List ColumnRef) (a b : ColumnRef) → Contains columns a → Contains columns b → a.relation ≢ b.relation → AreOfTwoRelations columns
two-from columns a b ha hb n = any-from (λ a. Any (λ b. a.relation ≢ b.relation) columns) columns a ha (any-from (λ b. a.relation ≢ b.relation) columns b hb n)

module _ (places : List Labelled) (order : AreInOrder places) where
  -- among no places
  pub of-label-none : (label : ℕ) → AreOfLabel places label 0 []
  of-label-none label = record {
    rise = λ i j d h lt. absurd (omega arith);
    members = λ c. ((λ h. absurd (omega (arith, h.1))), (λ s. absurd (omega (arith, s.2.0))));
  }

  module _ (label i : ℕ) (columns : List ColumnRef) (h : AreOfLabel places label i columns) (li : i < length places) where
    weaker : (c : ColumnRef) → SomeIndex places (λ j. (j < i) × (label_at places j ≡ label) × (column_at places j ≡ c)) → SomeIndex places (λ j. (j < i + 1) × (label_at places j ≡ label) × (column_at places j ≡ c))
    weaker c (j, lj, s) = (j, lj, (omega (arith, s.0), s.1, s.2))

    -- the next place has the label
    pub of-label-yes : label_at places i ≡ label → AreOfLabel places label (i + 1) (columns ++ column_at places i ∷ [])
    of-label-yes e = record { rise = all_pairs_push ComesBefore columns (column_at places i) h.rise below; members = λ c. (forth c, back c) }
      where
        below : (k : ℕ) (d : ColumnRef) → k < length columns → ComesBefore (get_or columns k d) (column_at places i)
        below k d lt = by ((h.members (get_or columns k d)).0 (Contains-get_or columns k d lt))
          where
            by : SomeIndex places (λ j. (j < i) × (label_at places j ≡ label) × (column_at places j ≡ get_or columns k d)) → ComesBefore (get_or columns k d) (column_at places i)
            by (j, lj, s) = before-same _ _ (column_at places j) (column_at places i) (sym s.2) refl (place-before places order.rise j i s.0 li)

        forth : (c : ColumnRef) → Contains (columns ++ column_at places i ∷ []) c → SomeIndex places (λ j. (j < i + 1) × (label_at places j ≡ label) × (column_at places j ≡ c))
        forth c s = by (Contains-push_cases columns (column_at places i) c s)
          where
            by : Contains columns c ⊎ (column_at places i ≡ c) → SomeIndex places (λ j. (j < i + 1) × (label_at places j ≡ label) × (column_at places j ≡ c))
            by (inl t) = weaker c ((h.members c).0 t)
            by (inr t) = (i, li, (omega arith, e, t))

        back : (c : ColumnRef) → SomeIndex places (λ j. (j < i + 1) × (label_at places j ≡ label) × (column_at places j ≡ c)) → Contains (columns ++ column_at places i ∷ []) c
        back c (j, lj, s) = by (cases-below j i s.0)
          where
            by : (j < i) ⊎ (i ≡ j) → Contains (columns ++ column_at places i ∷ []) c
            by (inl l) = Contains-append_left columns (column_at places i ∷ []) c ((h.members c).1 (j, lj, (l, s.1, s.2)))
            by (inr l) = let P : ColumnRef → Type 0 = Contains (columns ++ column_at places i ∷ []) in subst P (ap (column_at places) l ∙ s.2) (Contains-push columns (column_at places i))

    -- the next place has another label
    pub of-label-no : label_at places i ≢ label → AreOfLabel places label (i + 1) columns
    of-label-no n = record { rise = h.rise; members = λ c. ((λ s. weaker c ((h.members c).0 s)), back c) }
      where
        back : (c : ColumnRef) → SomeIndex places (λ j. (j < i + 1) × (label_at places j ≡ label) × (column_at places j ≡ c)) → Contains columns c
        back c (j, lj, s) = by (cases-below j i s.0)
          where
            by : (j < i) ⊎ (i ≡ j) → Contains columns c
            by (inl l) = (h.members c).1 (j, lj, (l, s.1, s.2))
            by (inr l) = absurd (n (ap (label_at places) l ∙ s.1))

  -- all places were gone through
  pub of-label-all : (label i : ℕ) (columns : List ColumnRef) → length places ≤ i → AreOfLabel places label i columns → AreOfLabel places label (length places) columns
  of-label-all label i columns long h = record {
    rise = h.rise;
    members = λ c. ((λ s. forth c ((h.members c).0 s)), (λ s. (h.members c).1 (s.0, s.1, (omega (arith, s.1), s.2.1, s.2.2))));
  }
    where
      forth : (c : ColumnRef) → SomeIndex places (λ j. (j < i) × (label_at places j ≡ label) × (column_at places j ≡ c)) → SomeIndex places (λ j. (j < length places) × (label_at places j ≡ label) × (column_at places j ≡ c))
      forth c (j, lj, s) = (j, lj, (lj, s.1, s.2))

-- the list's first
abbrev pub BeginsWith : List ColumnRef → ColumnRef → Type 0
BeginsWith [] c = ⊥
BeginsWith (x ∷ _) c = x ≡ c

begins-before : (us vs : List ColumnRef) (a b : ColumnRef) → BeginsWith us a → BeginsWith vs b → ComesBefore a b → BeginsBefore us vs
begins-before [] vs a b e f h = absurd e
begins-before (u ∷ us) [] a b e f h = absurd f
begins-before (u ∷ us) (v ∷ vs) a b e f h = before-same u v a b e f h

module _ (places : List Labelled) (order : AreInOrder places) where
  -- the columns of a label begin with that of its place
  of-label-first : (i : ℕ) (columns : List ColumnRef) → i < length places → label_at places i ≡ i → AreOfLabel places i (length places) columns → BeginsWith columns (column_at places i)
  of-label-first i [] li own h = absurd (omega (arith, ((h.members (column_at places i)).1 (i, li, (li, own, refl))).1))
  of-label-first i (x ∷ xs) li own h = by ((h.members x).0 (0, omega arith, refl)) ((h.members (column_at places i)).1 (i, li, (li, own, refl)))
    where
      by : SomeIndex places (λ j. (j < length places) × (label_at places j ≡ i) × (column_at places j ≡ x)) → Contains (x ∷ xs) (column_at places i) → x ≡ column_at places i
      by (j, lj, s) (zero, lk, is) = is
      by (j, lj, s) (suc k, lk, is) =
          let before : ComesBefore (column_at places j) (column_at places i) = before-same _ _ x (get_or xs k (column_at places i)) s.2 (sym is) (h.rise 0 (suc k) (column_at places i) (omega arith) lk) in
          let lt = place-below places order.rise j i lj li before in
          absurd (omega (arith, (order.least j lj).0, s.1))

  -- among no places
  pub by-label-none : AreByLabel places 0 []
  by-label-none = record {
    classes = λ k d lt. absurd (omega arith);
    rise = λ i j d h lt. absurd (omega arith);
    all = λ i j li lj l. absurd (omega arith);
    few = omega arith;
  }

  module _ (i : ℕ) (variables : List (List ColumnRef)) (h : AreByLabel places i variables) (li : i < length places) where
    weaken : (v : List ColumnRef) → IsVariableBelow places i v → IsVariableBelow places (i + 1) v
    weaken v ((j, lj, s), two) = ((j, lj, (omega (arith, s.0), s.1, s.2)), two)

    -- the columns of both places
    abbrev pub HasBoth : ℕ → ℕ → List ColumnRef → Type 0
    HasBoth a b v = Contains v (column_at places a) × Contains v (column_at places b)

    -- no variable has the label of the next place
    by-label-pass : ((a b : ℕ) → a < length places → b < length places → label_at places a ≡ i → label_at places a ≡ label_at places b
        → (column_at places a).relation ≢ (column_at places b).relation → ⊥) → AreByLabel places (i + 1) variables
    by-label-pass none = record {
      classes = All-weaker (IsVariableBelow places i) (IsVariableBelow places (i + 1)) weaken variables h.classes;
      rise = h.rise;
      all = all;
      few = omega (arith, h.few);
    }
      where
        all : (a b : ℕ) → a < length places → b < length places → label_at places a < i + 1 → label_at places a ≡ label_at places b
            → (column_at places a).relation ≢ (column_at places b).relation → Any (HasBoth a b) variables
        all a b la lb l e n = by (cases-below (label_at places a) i l)
          where
            by : (label_at places a < i) ⊎ (i ≡ label_at places a) → Any (HasBoth a b) variables
            by (inl g) = h.all a b la lb g e n
            by (inr g) = absurd (none a b la lb (sym g) e n)

    -- the next place has a lesser label, so that its own number is no label
    pub by-label-other : label_at places i ≢ i → AreByLabel places (i + 1) variables
    by-label-other n = by-label-pass (λ a b la lb e f g. n (sym (ap (label_at places) e) ∙ (order.least a la).1 ∙ e))

    -- the columns of the next label are of one relation
    pub by-label-narrow : (columns : List ColumnRef) → AreOfLabel places i (length places) columns → (AreOfTwoRelations columns → ⊥) → AreByLabel places (i + 1) variables
    by-label-narrow columns of none = by-label-pass (λ a b la lb e f g. none (two-from columns (column_at places a) (column_at places b)
        ((of.members (column_at places a)).1 (a, la, (la, e, refl))) ((of.members (column_at places b)).1 (b, lb, (lb, sym f ∙ e, refl))) g))

    -- the columns of the next label are a variable
    pub by-label-push : (columns : List ColumnRef) → label_at places i ≡ i → AreOfLabel places i (length places) columns → AreOfTwoRelations columns → AreByLabel places (i + 1) (variables ++ columns ∷ [])
    by-label-push columns own of two = record {
      classes = All-push (IsVariableBelow places (i + 1)) variables columns (All-weaker (IsVariableBelow places i) (IsVariableBelow places (i + 1)) weaken variables h.classes) ((i, li, (omega arith, own, of)), two);
      rise = all_pairs_push BeginsBefore variables columns h.rise below;
      all = all;
      few = omega (arith, h.few, length-append variables (columns ∷ []));
    }
      where
        below : (k : ℕ) (d : List ColumnRef) → k < length variables → BeginsBefore (get_or variables k d) columns
        below k d lt = by (h.classes k d lt)
          where
            by : IsVariableBelow places i (get_or variables k d) → BeginsBefore (get_or variables k d) columns
            by ((j, lj, s), t) =
                begins-before (get_or variables k d) columns (column_at places j) (column_at places i) (of-label-first j (get_or variables k d) lj s.1 s.2) (of-label-first i columns li own of)
                (place-before places order.rise j i s.0 li)

        all : (a b : ℕ) → a < length places → b < length places → label_at places a < i + 1 → label_at places a ≡ label_at places b
            → (column_at places a).relation ≢ (column_at places b).relation → Any (HasBoth a b) (variables ++ columns ∷ [])
        all a b la lb l e n = by (cases-below (label_at places a) i l)
          where
            earlier : (v : List ColumnRef) × Contains variables v × HasBoth a b v → Any (HasBoth a b) (variables ++ columns ∷ [])
            earlier (v, c, both) = any-from (HasBoth a b) (variables ++ columns ∷ []) v (Contains-append_left variables (columns ∷ []) v c) both

            by : (label_at places a < i) ⊎ (i ≡ label_at places a) → Any (HasBoth a b) (variables ++ columns ∷ [])
            by (inl g) = earlier (any-contains (HasBoth a b) variables (h.all a b la lb g e n))
            by (inr g) = any-from (HasBoth a b) (variables ++ columns ∷ []) columns (Contains-push variables columns)
                ((of.members (column_at places a)).1 (a, la, (la, sym g, refl)), (of.members (column_at places b)).1 (b, lb, (lb, sym e ∙ sym g, refl)))

module _ (widths : List ℕ) (equalities : List Equality) (places : List Labelled) (known : AreLabels widths equalities places) where
  -- the columns of a label are a class
  of-label-class : (i : ℕ) (columns : List ColumnRef) → i < length places → label_at places i ≡ i → AreOfLabel places i (length places) columns → IsClass widths equalities columns
  of-label-class i [] li own h = absurd (of-label-first places known.order i [] li own h)
  of-label-class i (x ∷ xs) li own h = record { rise = h.rise; one = omega arith; members = λ c. (forth c, back c) }
    where
      first : x ≡ column_at places i
      first = of-label-first places known.order i (x ∷ xs) li own h

      forth : (c : ColumnRef) → Contains (x ∷ xs) c → IsColumn widths c × Linked equalities x c
      forth c s = by ((h.members c).0 s)
        where
          by : SomeIndex places (λ j. (j < length places) × (label_at places j ≡ i) × (column_at places j ≡ c)) → IsColumn widths c × Linked equalities x c
          by (j, lj, t) =
              let link : Linked equalities x (column_at places j) = rw first ((known.linked i li j lj).0 (own ∙ sym t.1)) in
              let P : ColumnRef → Type 0 = Linked equalities x in
              ((known.columns c).0 (j, lj, t.2), subst P t.2 link)

      back : (c : ColumnRef) → IsColumn widths c × Linked equalities x c → Contains (x ∷ xs) c
      back c (is, link) = by ((known.columns c).1 is)
        where
          by : SomeIndex places (λ j. column_at places j ≡ c) → Contains (x ∷ xs) c
          by (j, lj, e) =
              let here : Linked equalities (column_at places i) (column_at places j) = rw (← first, e) link in
              (h.members c).1 (j, lj, (lj, sym ((known.linked i li j lj).1 here) ∙ own, e))

  -- the columns of each label with columns of two relations are the variables
  pub by-label-variables : (k : ℕ) (variables : List (List ColumnRef)) → length places ≤ k → AreByLabel places k variables → AreVariables widths equalities variables
  by-label-variables k variables long h = record { classes = λ m d lt. class (get_or variables m d) (h.classes m d lt); rise = h.rise; all = all }
    where
      class : (v : List ColumnRef) → SomeIndex places (λ j. (j < k) × (label_at places j ≡ j) × AreOfLabel places j (length places) v) × AreOfTwoRelations v → IsClass widths equalities v × AreOfTwoRelations v
      class v ((j, lj, s), two) = (of-label-class j v lj s.1 s.2, two)

      all : (a b : ColumnRef) → IsColumn widths a → IsColumn widths b → Linked equalities a b → a.relation ≢ b.relation → Any (λ v. Contains v a × Contains v b) variables
      all a b ia ib link n = by ((known.columns a).1 ia) ((known.columns b).1 ib)
        where
          by : SomeIndex places (λ j. column_at places j ≡ a) → SomeIndex places (λ j. column_at places j ≡ b) → Any (λ v. Contains v a × Contains v b) variables
          by (i, li, e) (j, lj, f) =
              let here : Linked equalities (column_at places i) (column_at places j) = rw (e, f) link in
              let apart : (column_at places i).relation ≢ (column_at places j).relation = rw (e, f) n in
              let found = h.all i j li lj (omega (arith, (known.order.least i li).0)) ((known.linked i li j lj).1 here) apart in
              rw (← e, ← f) found
