-- A query has labels, and from them variables, pairs and sets.
use Rattle.std.proofs.Common.{◌≡◌, ◌≢◌, ◌<◌, ◌+◌, ◌-◌, ◌⊎◌, ℕ, zero, suc, List, [], ◌∷◌, ◌++◌, length, map, get_or, inl, inr, refl, sym, ap, subst, add-one, arith}
use Rattle.std.proofs.lemmas.List.{get_or_default}
use Rattle.std.proofs.lemmas.Bool.{cases_eq}
use Rattle.std.specs.Prelude.{Any, SomeIndex, slice_index}
use Rattle.column_classes.specs.Variables.{AreEqualities, AreOfTwoRelations, ArePairs, AreQueryVariables, AreVariablesOf, AreWidths, QueryVariables}
use Rattle.column_classes.specs.Labels.{AreByLabel, AreInOrder, AreLabels, AreOfLabel, AreOwnLabels, ArePairsBefore, column_at, label_at, merged}
use Rattle.column_classes.specs.declared.columns.ColumnRef.{ColumnRef}
use Rattle.column_classes.specs.declared.columns.Equality.{Equality}
use Rattle.column_classes.specs.declared.classes.Labelled.{Labelled}
use Rattle.column_classes.proofs.ClassFacts.{by-label-narrow, by-label-none, by-label-other, by-label-push, by-label-variables, of-label-no, of-label-none, of-label-yes}
use Rattle.column_classes.proofs.LabelFacts.{AreMergedUpTo, merge-all, merge-next, merge-none, no_equality, own-next, own-none, own-push}
use Rattle.column_classes.proofs.OrderedLists.{collect}
use Rattle.column_classes.proofs.PairFacts.{pairs-are, pairs-end, pairs-none, pairs-pass, pairs-push, pairs-skip, pairs-start}
use Rattle.column_classes.proofs.PlaceFacts.{column-same, no_place}
use Rattle.column_classes.proofs.SetFacts.{AreVariablesBelow, set-all, set-none, set-pass, set-push}

-- some element has a property or none has it, where each has it or not
any-or-none : {X : Type 0} (P : X → Type 0) → ((x : X) → P x ⊎ (P x → ⊥)) → (xs : List X) → Any P xs ⊎ (Any P xs → ⊥)
any-or-none P known [] = inr (λ s. absurd (omega (arith, s.2)))
any-or-none {X} P known (x ∷ xs) = by (known x) (any-or-none P known xs)
  where
    none : (P x → ⊥) → (Any P xs → ⊥) → Any P (x ∷ xs) → ⊥
    none n m (zero, y, lt, is, p) = n (subst P (sym is) p)
    none n m (suc k, y, lt, is, p) = m (k, y, omega arith, is, p)

    by : P x ⊎ (P x → ⊥) → Any P xs ⊎ (Any P xs → ⊥) → Any P (x ∷ xs) ⊎ (Any P (x ∷ xs) → ⊥)
    by (inl p) _ = inl (zero, x, omega arith, refl, p)
    by (inr n) (inl (k, y, lt, is, p)) = inl (suc k, y, omega arith, is, p)
    by (inr n) (inr m) = inr (none n m)

-- what there is for 0, and for one more where there is one, there is for n
steps : (P : ℕ → Type 0) (n : ℕ) → P 0 → ((k : ℕ) → k < n → P k → P (k + 1)) → P n
steps P zero start next = start
steps P (suc n) start next = subst P (add-one n) (next n (omega arith) (steps P n start (λ k lt. next k (omega arith))))

module _ (widths : List ℕ) (w : AreWidths widths) where
  -- the columns of the relations below r, with their own labels
  abbrev OwnLabels : ℕ → ℕ → Type 0
  OwnLabels r c = (places : List Labelled) × AreOwnLabels widths r c places

  own-relation : (r : ℕ) → r < length widths → OwnLabels r 0 → OwnLabels (r + 1) 0
  own-relation r lr start =
      let all : OwnLabels r (slice_index widths r) =
      steps (OwnLabels r) (slice_index widths r) start
      (λ c lc s. (s.0 ++ record { column = record { relation = r; column = c }; label = length s.0 } ∷ [], own-push widths r c s.0 lr lc s.1)) in
      (all.0, own-next widths r (slice_index widths r) all.0 (omega arith) (omega (arith, w.narrow r 0 lr)) all.1)

  own-labels : OwnLabels (length widths) 0
  own-labels = steps (λ r. OwnLabels r 0) (length widths) ([], own-none widths) own-relation

  module _ (equalities : List Equality) (are : AreEqualities widths equalities) where
    -- the labels after the first k equalities
    abbrev MergedLabels : ℕ → Type 0
    MergedLabels k = (places : List Labelled) × AreMergedUpTo widths equalities k places

    merge-step : (k : ℕ) → k < length equalities → MergedLabels k → MergedLabels (k + 1)
    merge-step k lk (places, h) = by ((h.columns e.left).1 (are k no_equality lk).0) ((h.columns e.right).1 (are k no_equality lk).1)
      where
        e : Equality
        e = get_or equalities k no_equality

        labelled : (c : ColumnRef) (i : ℕ) → i < length places → column_at places i ≡ c → Any (λ p. (p.column ≡ c) × (p.label ≡ label_at places i)) places
        labelled c i lt same = (i, get_or places i no_place, lt, get_or_default places i (get_or places i no_place) no_place lt, (same, refl))

        by : SomeIndex places (λ i. column_at places i ≡ e.left) → SomeIndex places (λ i. column_at places i ≡ e.right) → MergedLabels (k + 1)
        by (i, li, f) (j, lj, g) = (
          map (merged (label_at places i) (label_at places j)) places,
          merge-next widths equalities places k (label_at places i) (label_at places j) h lk (labelled e.left i li f) (labelled e.right j lj g),
        )

    -- the columns have labels
    labels : (places : List Labelled) × AreLabels widths equalities places
    labels =
        let all : MergedLabels (length equalities) = steps MergedLabels (length equalities) (own-labels.0, merge-none widths equalities own-labels.0 w own-labels.1) merge-step in
        (all.0, merge-all widths equalities all.0 (length equalities) all.1 (omega arith) are)

module _ (places : List Labelled) (order : AreInOrder places) where
  -- the columns of a label among the first i places
  abbrev OfLabel : ℕ → ℕ → Type 0
  OfLabel label i = (columns : List ColumnRef) × AreOfLabel places label i columns

  -- there are columns of each label
  of-label : (label : ℕ) → OfLabel label (length places)
  of-label label = steps (OfLabel label) (length places) ([], of-label-none places order label) next
    where
      next : (i : ℕ) → i < length places → OfLabel label i → OfLabel label (i + 1)
      next i li (columns, h) = by (cases_eq (label_at places i) label)
        where
          by : (label_at places i ≡ label) ⊎ (label_at places i ≢ label) → OfLabel label (i + 1)
          by (inl e) = (columns ++ column_at places i ∷ [], of-label-yes places order label i columns h li e)
          by (inr n) = (columns, of-label-no places order label i columns h li n)

  -- columns are of two relations or of one
  two-or-one : (columns : List ColumnRef) → AreOfTwoRelations columns ⊎ (AreOfTwoRelations columns → ⊥)
  two-or-one columns =
      any-or-none (λ a. Any (λ b. a.relation ≢ b.relation) columns)
      (λ a. any-or-none (λ b. a.relation ≢ b.relation) (λ b. differ a b (cases_eq a.relation b.relation)) columns) columns
    where
      differ : (a b : ColumnRef) → (a.relation ≡ b.relation) ⊎ (a.relation ≢ b.relation) → (a.relation ≢ b.relation) ⊎ (a.relation ≢ b.relation → ⊥)
      differ a b (inl e) = inr (λ n. n e)
      differ a b (inr n) = inl n

  -- the variables by the labels of the first i places
  abbrev ByLabel : ℕ → Type 0
  ByLabel i = (variables : List (List ColumnRef)) × AreByLabel places i variables

  -- there are variables by the labels
  by-label : ByLabel (length places)
  by-label = steps ByLabel (length places) ([], by-label-none places order) next
    where
      next : (i : ℕ) → i < length places → ByLabel i → ByLabel (i + 1)
      next i li (variables, h) = by (cases_eq (label_at places i) i) (of-label i)
        where
          split : (columns : List ColumnRef) → label_at places i ≡ i → AreOfLabel places i (length places) columns → AreOfTwoRelations columns ⊎ (AreOfTwoRelations columns → ⊥)
              → ByLabel (i + 1)
          split columns own of (inl two) = (variables ++ columns ∷ [], by-label-push places order i variables h li columns own of two)
          split columns own of (inr none) = (variables, by-label-narrow places order i variables h li columns of none)

          by : (label_at places i ≡ i) ⊎ (label_at places i ≢ i) → OfLabel i (length places) → ByLabel (i + 1)
          by (inl own) (columns, of) = split columns own of (two-or-one columns)
          by (inr n) _ = (variables, by-label-other places order i variables h li n)

  module _ (r : ℕ) where
    -- the pairs of columns of the relation, for the pairs of places before (a, b)
    abbrev Pairs : ℕ → ℕ → Type 0
    Pairs a b = (pairs : List (ℕ × ℕ)) × ArePairsBefore places r a b pairs

    pair-step : (a b : ℕ) → a < b → b < length places → (column_at places a).relation ≡ r → Pairs a b → Pairs a (b + 1)
    pair-step a b lt lb of (pairs, h) = by (cases_eq (label_at places a) (label_at places b)) (cases_eq (column_at places b).relation r)
      where
        la : a < length places
        la = omega arith

        by : (label_at places a ≡ label_at places b) ⊎ (label_at places a ≢ label_at places b)
            → ((column_at places b).relation ≡ r) ⊎ ((column_at places b).relation ≢ r) → Pairs a (b + 1)
        by (inl e) (inl f) = (
          pairs ++ ((column_at places a).column, (column_at places b).column) ∷ [],
          pairs-push places order r a b pairs h la lb ((column_at places a).column, (column_at places b).column) (lt, e, column-same _ _ of refl, column-same _ _ f refl),
        )
        by (inl e) (inr n) = (pairs, pairs-skip places order r a b pairs h la lb (λ p at. n (ap (λ (c : ColumnRef). c.relation) at.3)))
        by (inr n) _ = (pairs, pairs-skip places order r a b pairs h la lb (λ p at. n at.1))

    pairs-of : (a : ℕ) → a < length places → Pairs a 0 → Pairs (a + 1) 0
    pairs-of a la (pairs, h) = by (cases_eq (column_at places a).relation r)
      where
        left : ℕ
        left = length places - (a + 1)

        by : ((column_at places a).relation ≡ r) ⊎ ((column_at places a).relation ≢ r) → Pairs (a + 1) 0
        by (inl of) =
            let Next : ℕ → Type 0 = λ k. Pairs a (a + 1 + k) in
            let start : Next 0 = (pairs, subst (λ b. ArePairsBefore places r a b pairs) (omega arith) (pairs-start places order r a pairs h)) in
            let all : Next left =
            steps Next left start (λ k lk s. (let m : Pairs a (a + 1 + k + 1) = pair-step a (a + 1 + k) (omega arith) (omega arith) of s in subst (Pairs a) (omega arith) m)) in
            (all.0, pairs-end places order r a (a + 1 + left) all.0 (omega arith) all.1)
        by (inr n) = (pairs, pairs-pass places order r a pairs n h)

    all-pairs : Pairs (length places) 0
    all-pairs = steps (λ a. Pairs a 0) (length places) ([], pairs-none places order r) pairs-of

module _ (variables : List (List ColumnRef)) (r : ℕ) where
  -- the set of those variables below k that are of the relation
  abbrev Below : ℕ → Type 0
  Below k = (set : List ℕ) × AreVariablesBelow variables r k set

  set-step : (k : ℕ) → k < length variables → Below k → Below (k + 1)
  set-step k lk (set, h) = by (any-or-none (λ c. c.relation ≡ r) (λ c. cases_eq c.relation r) (get_or variables k []))
    where
      by : Any (λ c. c.relation ≡ r) (get_or variables k []) ⊎ (Any (λ c. c.relation ≡ r) (get_or variables k []) → ⊥) → Below (k + 1)
      by (inl one) = (set ++ k ∷ [], set-push variables r k set h (lk, one))
      by (inr none) = (set, set-pass variables r k set h (λ s. none s.1))

  -- there is a set of the relation's variables
  set-of : (set : List ℕ) × AreVariablesOf variables r set
  set-of =
      let all : Below (length variables) = steps Below (length variables) ([], set-none variables r) set-step in
      (all.0, set-all variables r (length variables) all.0 (omega arith) all.1)

-- a query has variables, pairs and sets
pub variables-there : (widths : List ℕ) (equalities : List Equality) → AreWidths widths → AreEqualities widths equalities
    → (known : QueryVariables) × AreQueryVariables widths equalities known
variables-there widths equalities w are = from (labels widths w equalities are)
  where
    from : ((places : List Labelled) × AreLabels widths equalities places) → (known : QueryVariables) × AreQueryVariables widths equalities known
    from (places, known) =
        let variables = by-label places known.order in
        let local =
        collect (λ r pairs. ArePairs widths equalities r pairs) (length widths)
        (λ r lr. (let all = all-pairs places known.order r in (all.0, pairs-are widths equalities places known r (length places) all.0 (omega arith) all.1))) in
        let sets = collect (λ r set. AreVariablesOf variables.0 r set) (length widths) (λ r lr. set-of variables.0 r) in (
          record { variables = variables.0; local = local.0; sets = sets.0 },
          record {
            variables = by-label-variables widths equalities places known (length places) variables.0 (omega arith) variables.1;
            local_length = local.1;
            local = λ r lt. local.2 r [] (omega (arith, local.1));
            sets_length = sets.1;
            sets = λ r lt. sets.2 r [] (omega (arith, sets.1));
          },
        )
