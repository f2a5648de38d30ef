-- Columns, and the places at which they stand.
use Rattle.std.proofs.Common.{◌≡◌, ◌∙◌, ◌<◌, ◌≤◌, ◌+◌, ◌⊎◌, ℕ, List, [], ◌∷◌, ◌++◌, length, get_or, inl, inr, refl, ap, subst, arith}
use Rattle.std.proofs.lemmas.List.{get_or_append_left, get_or_default, get_or_push}
use Rattle.std.proofs.lemmas.Bool.{cases_lt}
use Rattle.std.specs.Prelude.{AllPairs, Any, SomeIndex}
use Rattle.column_classes.specs.Variables.{ComesBefore, column_of}
use Rattle.column_classes.specs.Labels.{column_at, label_at}
use Rattle.column_classes.specs.declared.columns.ColumnRef.{ColumnRef}
use Rattle.column_classes.specs.declared.classes.Labelled.{Labelled}

-- what is read past the end
abbrev pub no_place : Labelled
no_place = record { column = column_of 0 0; label = 0 }

-- the columns of the places rise
abbrev pub Rise : List Labelled → Type 0
Rise places = AllPairs (λ p q. ComesBefore p.column q.column) places

-- no column is before itself
pub before-not_itself : (a : ColumnRef) → ComesBefore a a → ⊥
before-not_itself a (inl h) = omega arith
before-not_itself a (inr h) = omega arith

-- of two columns only one is before the other
pub before-not_both : (a b : ColumnRef) → ComesBefore a b → ComesBefore b a → ⊥
before-not_both a b (inl g) (inl h) = omega arith
before-not_both a b (inl g) (inr h) = omega arith
before-not_both a b (inr g) (inl h) = omega arith
before-not_both a b (inr g) (inr h) = omega arith

-- the order of two columns is that of the same two
pub before-same : (a b c d : ColumnRef) → a ≡ c → b ≡ d → ComesBefore c d → ComesBefore a b
before-same a b c d e f h = rw (e, f) h

-- two columns with one relation and one number are one
pub column-same : (a b : ColumnRef) → a.relation ≡ b.relation → a.column ≡ b.column → a ≡ b
column-same a b e f = rw (e, f) refl

module _ (places : List Labelled) (rise : Rise places) where
  -- the columns rise with their places
  pub place-before : (i j : ℕ) → i < j → j < length places → ComesBefore (column_at places i) (column_at places j)
  place-before i j h lt = rise i j no_place h lt

  -- a column before another stands before it
  pub place-below : (i j : ℕ) → i < length places → j < length places → ComesBefore (column_at places i) (column_at places j) → i < j
  place-below i j li lj h =
      let above : j < i → ⊥ = λ g. before-not_both (column_at places i) (column_at places j) h (place-before j i g li) in
      let same : i ≡ j → ⊥ = λ e. (let P : ColumnRef → Type 0 = λ c. ComesBefore c (column_at places j) in before-not_itself (column_at places j) (subst P (ap (column_at places) e) h)) in
      omega arith

  -- one column stands at one place
  pub place-same : (i j : ℕ) → i < length places → j < length places → column_at places i ≡ column_at places j → i ≡ j
  place-same i j li lj e =
      let P : ColumnRef → Type 0 = λ c. ComesBefore c (column_at places j) in
      let Q : ColumnRef → Type 0 = λ c. ComesBefore (column_at places j) c in
      let below : i < j → ⊥ = λ h. before-not_itself (column_at places j) (subst P e (place-before i j h lj)) in
      let above : j < i → ⊥ = λ h. before-not_itself (column_at places j) (subst Q e (place-before j i h li)) in
      omega arith

-- the columns and labels before a new last place are as they were
pub column-kept : (places : List Labelled) (p : Labelled) (i : ℕ) → i < length places → column_at (places ++ p ∷ []) i ≡ column_at places i
column-kept places p i lt = ap (λ (q : Labelled). q.column) (get_or_append_left places (p ∷ []) no_place i lt)

pub label-kept : (places : List Labelled) (p : Labelled) (i : ℕ) → i < length places → label_at (places ++ p ∷ []) i ≡ label_at places i
label-kept places p i lt = ap (λ (q : Labelled). q.label) (get_or_append_left places (p ∷ []) no_place i lt)

-- those at a new last place are its own
pub column-last : (places : List Labelled) (p : Labelled) (i : ℕ) → length places ≡ i → column_at (places ++ p ∷ []) i ≡ p.column
column-last places p i e = ap (λ (q : Labelled). q.column) (get_or_push places p no_place i e)

pub label-last : (places : List Labelled) (p : Labelled) (i : ℕ) → length places ≡ i → label_at (places ++ p ∷ []) i ≡ p.label
label-last places p i e = ap (λ (q : Labelled). q.label) (get_or_push places p no_place i e)

-- the column of a place, by whatever is read past the end
pub column-read : (places : List Labelled) (i : ℕ) (d : Labelled) → i < length places → (get_or places i d).column ≡ column_at places i
column-read places i d lt = ap (λ (q : Labelled). q.column) (get_or_default places i d no_place lt)

-- a place below the new length is an earlier one or the last
pub cases-below : (i n : ℕ) → i < n + 1 → (i < n) ⊎ (n ≡ i)
cases-below i n lt = by (cases_lt i n)
  where
    by : (i < n) ⊎ (n ≤ i) → (i < n) ⊎ (n ≡ i)
    by (inl h) = inl h
    by (inr h) = inr (omega arith)

-- a place of a column, as an element and as an index
pub column-any : (places : List Labelled) (c : ColumnRef) → SomeIndex places (λ i. column_at places i ≡ c) → Any (λ p. p.column ≡ c) places
column-any places c (i, lt, e) = (i, get_or places i no_place, lt, get_or_default places i (get_or places i no_place) no_place lt, e)

pub label-index : (places : List Labelled) (c : ColumnRef) (l : ℕ) → Any (λ p. (p.column ≡ c) × (p.label ≡ l)) places → SomeIndex places (λ i. (column_at places i ≡ c) × (label_at places i ≡ l))
label-index places c l (i, p, lt, is, e) =
    let here = get_or_default places i no_place p lt ∙ is in
    (i, lt, (ap (λ (q : Labelled). q.column) here ∙ e.0, ap (λ (q : Labelled). q.label) here ∙ e.1))
