-- Columns with the labels of their classes.
-- Words of this crate's own contracts.
use Rattle.std.specs.Prelude.{◌≡◌, ◌≢◌, ◌==◌, ◌+◌, ◌*◌, ◌<◌, ◌≤◌, ◌↔◌, if◌then◌else◌, ℕ, List, All}
use Rattle.std.specs.Prelude.{AllPairs, Contains, EachIndex}
use Rattle.std.specs.Prelude.{SomeIndex, [], Vec, length, max, min}
use Rattle.std.specs.List.{slice_index_or}
use Rattle.column_classes.specs.Variables.{AreInOne, lists_in, AreOfTwoRelations}
use Rattle.column_classes.specs.Variables.{BeginsBefore, ComesBefore}
use Rattle.column_classes.specs.Variables.{IsColumn, IsLesserPair, Linked, column_of}
use Rattle.std.specs.declared.alloc.Global.{Global}
use Rattle.column_classes.specs.declared.columns.ColumnRef.{ColumnRef}
use Rattle.column_classes.specs.declared.columns.Equality.{Equality}
use Rattle.column_classes.specs.declared.classes.Labelled.{Labelled}

-- the column at a place
abbrev pub column_at : List Labelled → ℕ → ColumnRef
column_at places i = (slice_index_or places i (record { column = column_of 0 0; label = 0 })).column

-- the label of that column
abbrev pub label_at : List Labelled → ℕ → ℕ
label_at places i = (slice_index_or places i (record { column = column_of 0 0; label = 0 })).label

-- a column stands among the places
abbrev pub HasColumn : List Labelled → ColumnRef → Type 0
HasColumn places a = SomeIndex places (λ i. column_at places i ≡ a)

abbrev pub HaveOneLabel : List Labelled → ℕ → ℕ → Type 0
HaveOneLabel places i j = label_at places i ≡ label_at places j

-- the label at a place is no later place, and its own label
abbrev pub HasLeastLabel : List Labelled → ℕ → Type 0
HasLeastLabel places i =
    (label_at places i ≤ i) × (label_at places (label_at places i) ≡ label_at places i)

-- the columns at two places have one label exactly where they are linked
abbrev pub AreLabelledByLinks : List Equality → List Labelled → ℕ → ℕ → Type 0
AreLabelledByLinks equalities places i j =
    HaveOneLabel places i j ↔ Linked equalities (column_at places i) (column_at places j)

-- the columns of the query before column c of relation r, in order, each labelled with its own place
pub record AreOwnLabels (widths : List ℕ) (r c : ℕ) (places : List Labelled) : Type 0 where
  pub rise : AllPairs (λ p q. ComesBefore p.column q.column) places
  pub columns : (a : ColumnRef) → HasColumn places a
      ↔ (IsColumn widths a × ComesBefore a (column_of r c))
  pub own : EachIndex places (λ i. label_at places i ≡ i)
  pub few : length places ≤ 64 * r + c

-- the columns rise, and a label is the least place of those that have it
pub record AreInOrder (places : List Labelled) : Type 0 where
  pub rise : AllPairs (λ p q. ComesBefore p.column q.column) places
  pub least : EachIndex places (HasLeastLabel places)
  pub few : length places ≤ 1024

-- the columns of the query in order, where two have one label exactly where they are linked
pub record AreLabels (widths : List ℕ) (equalities : List Equality) (places : List Labelled)
    : Type 0 where
  pub order : AreInOrder places
  pub columns : (a : ColumnRef) → HasColumn places a ↔ IsColumn widths a
  pub linked : EachIndex places (λ i. EachIndex places (AreLabelledByLinks equalities places i))

-- the greater of two labels becomes the lesser
abbrev pub merged : ℕ → ℕ → Labelled → Labelled
merged left right p = record {
  column = p.column;
  label = if p.label == max left right then min left right else p.label;
}

-- the column stands at this place, which is one of the first and has this label
abbrev pub IsLabelledAt : List Labelled → ℕ → ℕ → ColumnRef → ℕ → Type 0
IsLabelledAt places label first c i =
    (i < first) × (label_at places i ≡ label) × (column_at places i ≡ c)

-- the columns with a label among the first places, in order
pub record AreOfLabel (places : List Labelled) (label first : ℕ) (columns : List ColumnRef)
    : Type 0 where
  pub rise : AllPairs ComesBefore columns
  pub members : (c : ColumnRef) → Contains columns c
      ↔ SomeIndex places (IsLabelledAt places label first c)

-- the columns of a label among the first places
abbrev pub IsClassBelow : List Labelled → ℕ → List ColumnRef → Type 0
IsClassBelow places first columns = SomeIndex places
    (λ i. (i < first) × (label_at places i ≡ i) × AreOfLabel places i (length places) columns)

-- the same, of two relations
abbrev pub IsVariableBelow : List Labelled → ℕ → List ColumnRef → Type 0
IsVariableBelow places first columns = IsClassBelow places first columns × AreOfTwoRelations columns

-- the columns of each label among the first places that has columns of two relations, in the order of the labels
pub record AreByLabel (places : List Labelled) (first : ℕ) (variables : List (List ColumnRef))
    : Type 0 where
  pub classes : All (IsVariableBelow places first) variables
  pub rise : AllPairs BeginsBefore variables
  pub all : (i j : ℕ) → i < length places → j < length places
      → label_at places i < first → HaveOneLabel places i j
      → (column_at places i).relation ≢ (column_at places j).relation
      → AreInOne variables (column_at places i) (column_at places j)
  pub few : length variables ≤ first

-- p is the pair of the columns at places i and j, which are of the relation and have one label
abbrev pub IsPairAt : List Labelled → ℕ → ℕ → ℕ → ℕ × ℕ → Type 0
IsPairAt places relation i j p =
    (i < j) × HaveOneLabel places i j
    × (column_at places i ≡ column_of relation p.0) × (column_at places j ≡ column_of relation p.1)

-- p is such a pair, at places i and j before (a, b)
abbrev pub IsPairBefore : List Labelled → ℕ → ℕ → ℕ → ℕ × ℕ → Type 0
IsPairBefore places relation a b p = SomeIndex places
    (λ i. SomeIndex places (λ j. IsPairAt places relation i j p × IsLesserPair (i, j) (a, b)))

-- the pairs of columns of the relation with one label, for the pairs of places before (a, b), in order
pub record ArePairsBefore (places : List Labelled) (relation a b : ℕ) (pairs : List (ℕ × ℕ))
    : Type 0 where
  pub rise : AllPairs IsLesserPair pairs
  pub members : (p : ℕ × ℕ) → Contains pairs p ↔ IsPairBefore places relation a b p

-- each relation's list holds the pairs of its columns with one label
abbrev pub HavePairs : List Labelled → List (Vec (ℕ × ℕ) Global) → Type 0
HavePairs places local =
    EachIndex local (λ r. ArePairsBefore places r (length places) 0 (slice_index_or (lists_in local) r []))
