-- A bound query.
use Rattle.std.specs.Prelude.{◌≡◌, ℕ, ◌<◌, ◌≤◌, List, [], length, map, IsTrue, Some}
use Rattle.std.specs.Prelude.{slice_get, slice_index, slice_index_or}
use Rattle.std.specs.List.{All}
use Rattle.rpt_base.specs.declared.limits.TheConstants.{MAX_COLUMNS, MAX_RELATIONS}
use Rattle.rpt_base.specs.declared.values.ColumnType.{ColumnType}
use Rattle.column_table.specs.Table.{types_of}
use Rattle.column_table.specs.declared.declared.ColumnDecl.{ColumnDecl}
use Rattle.column_table.specs.declared.declared.Decl.{Decl}
use Rattle.predicate.specs.declared.tree.Pred.{Pred}
use Rattle.predicate.specs.Truth.{is_typed}
use Rattle.column_classes.specs.Variables.{AreQueryVariables, QueryVariables}
use Rattle.column_classes.specs.declared.columns.ColumnRef.{ColumnRef}
use Rattle.column_classes.specs.declared.columns.Equality.{Equality}
use Rattle.bound_query.specs.declared.output.OutColumn.{OutColumn}

-- The relations' names, the different tables by first use and the number of each relation's, the condition of each
-- relation, the written equalities, and the columns of the output.
pub record Query : Type 0 where
  pub aliases : List (List ℕ)
  pub tables : List Decl
  pub table_of : List ℕ
  pub conditions : List Pred
  pub equalities : List Equality
  pub output : List OutColumn

-- the columns of the table with this number
abbrev pub columns_in : List Decl → ℕ → List ColumnDecl
columns_in tables t = (slice_index_or tables t (record { name = []; columns = [] })).columns

-- the columns of a relation
abbrev pub columns_of : Query → ℕ → List ColumnDecl
columns_of q r = columns_in q.tables (slice_index q.table_of r)

-- how many columns the relations with these tables have
abbrev pub widths_in : List Decl → List ℕ → List ℕ
widths_in tables table_of = map (λ t. length (columns_in tables t)) table_of

-- how many columns each relation has
abbrev pub widths_of : Query → List ℕ
widths_of q = widths_in q.tables q.table_of

-- the types of a relation's columns
abbrev pub kinds_of : Query → ℕ → List ColumnType
kinds_of q r = types_of (columns_of q r)

-- the column's relation is one of the query's, and the column is one of that relation's
pub record IsColumnOf (q : Query) (c : ColumnRef) : Type 0 where
  pub relation : c.relation < length q.table_of
  pub column : c.column < length (kinds_of q c.relation)

-- both columns of an equality are columns of the query
pub record IsEqualityOf (q : Query) (e : Equality) : Type 0 where
  pub left : IsColumnOf q e.left
  pub right : IsColumnOf q e.right

-- a query, and what is known of its variables
pub record BoundQuery : Type 0 where
  pub query : Query
  pub known : QueryVariables

-- no table has too many columns
abbrev pub AreNarrow : List Decl → Type 0
AreNarrow tables = All (λ (d : Decl). length d.columns ≤ MAX_COLUMNS) tables

-- all of a query's numbers are in range, its conditions are typed, and its parts are within the limits
pub record IsBound (q : Query) : Type 0 where
  pub some : 1 ≤ length q.table_of
  pub few : length q.table_of ≤ MAX_RELATIONS
  pub few_tables : length q.tables ≤ MAX_RELATIONS
  pub few_columns : AreNarrow q.tables
  pub same : length q.conditions ≡ length q.table_of
  pub named : length q.aliases ≡ length q.table_of
  pub within : (r : ℕ) → r < length q.table_of → slice_index q.table_of r < length q.tables
  pub typed : (r : ℕ) (p : Pred) → slice_get q.conditions r ≡ Some p → IsTrue (is_typed (kinds_of q r) p)
  pub joined : All (IsEqualityOf q) q.equalities
  pub shown : All (λ (c : OutColumn). IsColumnOf q c.source) q.output

-- the query is in order, and its variables are those of its written equalities
pub record IsBoundQuery (b : BoundQuery) : Type 0 where
  pub query : IsBound b.query
  pub known : AreQueryVariables (widths_of b.query) b.query.equalities b.known
