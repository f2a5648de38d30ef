-- Columns that written equalities link, and variables.
use Rattle.std.specs.Prelude.{◌≡◌, ◌≢◌, ◌<◌, ◌≤◌, ◌⊎◌, ◌↔◌, ℕ, List, [], ◌∷◌, All}
use Rattle.std.specs.Prelude.{AllPairs, Any, Contains, EachIndex, Vec, length, map, slice_index}
use Rattle.std.specs.declared.alloc.Global.{Global}
use Rattle.std.specs.List.Sorted.{IsStrictlyIncreasing}
use Rattle.std.specs.List.{slice_index_or}
use Rattle.rpt_base.specs.declared.limits.TheConstants.{MAX_COLUMNS, MAX_RELATIONS}
use Rattle.column_classes.specs.declared.columns.ColumnRef.{ColumnRef}
use Rattle.column_classes.specs.declared.columns.Equality.{Equality}

-- a chain of written equalities links the columns
pub data Linked (equalities : List Equality) : ColumnRef → ColumnRef → Type 0 where
  Itself : (a : ColumnRef) → Linked equalities a a
  Written : (e : Equality) → Contains equalities e → Linked equalities e.left e.right
  Back : (a b : ColumnRef) → Linked equalities a b → Linked equalities b a
  Chain : (a b c : ColumnRef) → Linked equalities a b → Linked equalities b c → Linked equalities a c

-- a column is before another by its relation, and then by its column
abbrev pub ComesBefore : ColumnRef → ColumnRef → Type 0
ComesBefore a b = (a.relation < b.relation) ⊎ ((a.relation ≡ b.relation) × (a.column < b.column))

-- a query has a relation, and not too many, of not too many columns each
pub record AreWidths (widths : List ℕ) : Type 0 where
  pub one : 0 < length widths
  pub few : length widths ≤ MAX_RELATIONS
  pub narrow : All (λ w. w ≤ MAX_COLUMNS) widths

-- a column of the query
abbrev pub IsColumn : List ℕ → ColumnRef → Type 0
IsColumn widths c = (c.relation < length widths) × (c.column < slice_index widths c.relation)

-- each equality is one of columns of the query
abbrev pub AreEqualities : List ℕ → List Equality → Type 0
AreEqualities widths equalities =
    All (λ e. IsColumn widths e.left × IsColumn widths e.right) equalities

-- a column that is linked with the list's first
abbrev pub IsLinkedToFirst : List Equality → List ColumnRef → ColumnRef → Type 0
IsLinkedToFirst equalities [] c = ⊥
IsLinkedToFirst equalities (first ∷ columns) c = Linked equalities first c

-- the columns of one class: they rise, there is one, and they are the columns of the query that are linked with the first
pub record IsClass (widths : List ℕ) (equalities : List Equality) (columns : List ColumnRef)
    : Type 0 where
  pub rise : AllPairs ComesBefore columns
  pub one : 0 < length columns
  pub members : (c : ColumnRef) → Contains columns c
      ↔ (IsColumn widths c × IsLinkedToFirst equalities columns c)

-- some columns are of different relations
abbrev pub AreOfTwoRelations : List ColumnRef → Type 0
AreOfTwoRelations columns = Any (λ a. Any (λ b. a.relation ≢ b.relation) columns) columns

-- a list begins with a column that is before the other's first
abbrev pub BeginsBefore : List ColumnRef → List ColumnRef → Type 0
BeginsBefore (a ∷ _) (b ∷ _) = ComesBefore a b
BeginsBefore _ _ = ⊥

-- one of the variables has both columns
abbrev pub AreInOne : List (List ColumnRef) → ColumnRef → ColumnRef → Type 0
AreInOne variables a b = Any (λ v. Contains v a × Contains v b) variables

-- the variables of a query: the classes with columns in two or more relations, by their first columns
pub record AreVariables
    (widths : List ℕ) (equalities : List Equality) (variables : List (List ColumnRef)) : Type 0 where
  pub classes : All (λ v. IsClass widths equalities v × AreOfTwoRelations v) variables
  pub rise : AllPairs BeginsBefore variables
  pub all : (a b : ColumnRef) → IsColumn widths a → IsColumn widths b
      → Linked equalities a b → a.relation ≢ b.relation → AreInOne variables a b

-- a pair is before another by its first number, and then by its second
abbrev pub IsLesserPair : ℕ × ℕ → ℕ × ℕ → Type 0
IsLesserPair p q = (p.0 < q.0) ⊎ ((p.0 ≡ q.0) × (p.1 < q.1))

-- column i of a relation
abbrev pub column_of : ℕ → ℕ → ColumnRef
column_of relation i = record { relation = relation; column = i }

-- columns i and j of the relation are linked, and i is the lesser
abbrev pub IsLinkedPair : List ℕ → List Equality → ℕ → ℕ → ℕ → Type 0
IsLinkedPair widths equalities relation i j =
    (i < j) × IsColumn widths (column_of relation i) × IsColumn widths (column_of relation j)
    × Linked equalities (column_of relation i) (column_of relation j)

-- the pairs of two columns of the relation that are linked, the lesser first, in order
pub record ArePairs
    (widths : List ℕ) (equalities : List Equality) (relation : ℕ) (pairs : List (ℕ × ℕ)) : Type 0 where
  pub rise : AllPairs IsLesserPair pairs
  pub members : (i j : ℕ) → Contains pairs (i, j) ↔ IsLinkedPair widths equalities relation i j

-- a variable with a column of the relation
abbrev pub IsVariableOf : List (List ColumnRef) → ℕ → ℕ → Type 0
IsVariableOf variables relation v =
    (v < length variables) × Any (λ c. c.relation ≡ relation) (slice_index_or variables v [])

-- the numbers of the variables with a column of the relation, in order
pub record AreVariablesOf (variables : List (List ColumnRef)) (relation : ℕ) (set : List ℕ)
    : Type 0 where
  pub rise : IsStrictlyIncreasing set
  pub members : (v : ℕ) → Contains set v ↔ IsVariableOf variables relation v

-- the lists in a list
abbrev pub lists_in : {X : Type 0} → List (Vec X Global) → List (List X)
lists_in lists = map (λ l. l.items) lists

-- each relation's list holds the numbers of its variables
abbrev pub HaveVariables : List (List ColumnRef) → List (Vec ℕ Global) → Type 0
HaveVariables variables sets =
    EachIndex sets (λ r. AreVariablesOf variables r (slice_index_or (lists_in sets) r []))

-- what is known of a query's variables: their columns, and for each relation the pairs of its linked columns and its variables
pub record QueryVariables : Type 0 where
  pub variables : List (List ColumnRef)
  pub local : List (List (ℕ × ℕ))
  pub sets : List (List ℕ)

abbrev pub known_of : List (Vec ColumnRef Global) → List (Vec (ℕ × ℕ) Global) → List (Vec ℕ Global)
    → QueryVariables
known_of variables local sets =
    record { variables = lists_in variables; local = lists_in local; sets = lists_in sets }

-- the lists are those of the query
pub record AreQueryVariables
    (widths : List ℕ) (equalities : List Equality) (known : QueryVariables) : Type 0 where
  pub variables : AreVariables widths equalities known.variables
  pub local_length : length known.local ≡ length widths
  pub local : EachIndex known.local (λ r. ArePairs widths equalities r (slice_index_or known.local r []))
  pub sets_length : length known.sets ≡ length widths
  pub sets : EachIndex known.sets (λ r. AreVariablesOf known.variables r (slice_index_or known.sets r []))
