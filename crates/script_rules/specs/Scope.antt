-- What the names of a script resolve to.
use Rattle.std.specs.Prelude.{ℕ, ◌≤◌, Bool, true, List, [], ◌∷◌, length, map, Option, None, Some, Result, Ok, Err, All, position}
use Rattle.std.specs.Prelude.{slice_get, slice_index_or, if◌then◌else◌}
use Rattle.std.specs.List.{enumerate_from, find, flat_map}
use Rattle.std.specs.Option.{option_map, option_map_or, option_to_list}
use Rattle.std.specs.Str.{bytes_eq}
use Rattle.rpt_base.specs.declared.limits.TheConstants.{MAX_COLUMNS, MAX_RELATIONS}
use Rattle.rpt_base.specs.declared.values.ColumnType.{ColumnType}
use Rattle.sql_grammar.specs.declared.tree.Script.{Script}
use Rattle.sql_grammar.specs.declared.tree.CreateTable.{CreateTable}
use Rattle.sql_grammar.specs.declared.tree.ColumnItem.{ColumnItem}
use Rattle.sql_grammar.specs.declared.tree.ColumnName.{ColumnName}
use Rattle.sql_grammar.specs.declared.tree.Source.{Source}
use Rattle.sql_grammar.specs.declared.tree.Alias.{Alias}
use Rattle.column_classes.specs.declared.columns.ColumnRef.{ColumnRef}
use Rattle.script_rules.specs.declared.kinds.BindKind.{BindKind}
use Rattle.script_rules.specs.declared.kinds.BindKind.TheVariants.{UnknownColumn, Ambiguous}

-- a relation of the query: the name that it goes by, and the columns of its table
pub record Relation : Type 0 where
  pub name : List ℕ
  pub columns : List ColumnItem

-- the created table of this name, the first of them
abbrev pub table_named : List CreateTable → List ℕ → Option CreateTable
table_named tables name = find (λ (t : CreateTable). bytes_eq t.name name) tables

-- a source's name: its alias, or else its table's name
abbrev pub name_of : Source → List ℕ
name_of s = option_map_or (λ (a : Alias). a.name) s.alias s.table

-- where a source's name stands
abbrev pub name_place : Source → ℕ
name_place s = option_map_or (λ (a : Alias). a.at) s.alias s.at

-- the columns of a source's table; none where it isn't created
abbrev pub columns_of : List CreateTable → Source → List ColumnItem
columns_of tables s = option_map_or (λ (t : CreateTable). t.columns) (table_named tables s.table) []

-- the relation that a source is
abbrev pub relation_of : List CreateTable → Source → Relation
relation_of tables s = record { name = name_of s; columns = columns_of tables s }

-- the relations are the sources in order
unfoldable pub scope_of : Script → List Relation
scope_of script = map (relation_of script.tables) script.select.sources

-- the relation of this number
abbrev pub relation_at : List Relation → ℕ → Relation
relation_at scope n = slice_index_or scope n (record { name = []; columns = [] })

-- a relation may be named by a reference with this name, or with none
abbrev pub may_name : Option (List ℕ) → Relation → Bool
may_name None r = true
may_name (Some name) r = bytes_eq r.name name

-- the place of the column of this name, if there is one
abbrev pub place_of : List ColumnItem → List ℕ → Option ℕ
place_of columns name = position (λ (c : ColumnItem). bytes_eq c.name name) columns

-- the column of this name in the relation of this number, if it has one
abbrev pub column_in : List ℕ → ℕ → Relation → Option ColumnRef
column_in name number r = option_map (λ place. record { relation = number; column = place }) (place_of r.columns name)

-- the column that a reference may resolve to in the relation of this number
abbrev pub resolve_in : ColumnName → ℕ → Relation → Option ColumnRef
resolve_in c number r = if may_name c.relation r then column_in c.column number r else None

-- all columns that a reference may resolve to
abbrev pub candidates : List Relation → ColumnName → List ColumnRef
candidates scope c = flat_map (λ (p : ℕ × Relation). option_to_list (resolve_in c p.0 p.1)) (enumerate_from 0 scope)

-- the one candidate, or the kind of refusal where there is none, or more than one
abbrev pub only_candidate : List ColumnRef → Result ColumnRef BindKind
only_candidate [] = Err UnknownColumn
only_candidate (c ∷ []) = Ok c
only_candidate (c ∷ d ∷ more) = Err Ambiguous

-- what a reference resolves to
unfoldable pub resolve : List Relation → ColumnName → Result ColumnRef BindKind
resolve scope c = only_candidate (candidates scope c)

-- the type of the column at a place, if there is one
abbrev pub kind_at : List ColumnItem → ℕ → Option ColumnType
kind_at columns place = option_map (λ (i : ColumnItem). i.kind) (slice_get columns place)

-- the type of the column at a place of a relation that may be missing
abbrev pub kind_under : Option Relation → ℕ → Option ColumnType
kind_under None place = None
kind_under (Some r) place = kind_at r.columns place

-- the type of a column; none where there is no such column
unfoldable pub type_at : List Relation → ColumnRef → Option ColumnType
type_at scope c = kind_under (slice_get scope c.relation) c.column

-- there are no more relations than a query may have, and no more columns than a table may have
pub record IsWithinLimits (script : Script) : Type 0 where
  pub relations : length script.select.sources ≤ MAX_RELATIONS
  pub columns : All (λ (t : CreateTable). length t.columns ≤ MAX_COLUMNS) script.tables
