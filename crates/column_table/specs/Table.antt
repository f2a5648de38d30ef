-- A table as the list of its rows.
use Rattle.std.specs.Prelude.{ℕ, ◌&&◌, Bool, true, false, List, [], ◌∷◌, ◌++◌, length, map}
use Rattle.std.specs.Prelude.{pos, Option, slice_get, slice_index_or, option_and_then}
use Rattle.std.specs.Str.{IsUtf8}
use Rattle.rpt_base.specs.declared.values.Cell.{Cell}
use Rattle.rpt_base.specs.declared.values.Cell.TheVariants as cell
use Rattle.rpt_base.specs.declared.values.ColumnType.{ColumnType}
use Rattle.rpt_base.specs.declared.values.ColumnType.TheVariants as kind
use Rattle.rpt_base.specs.declared.values.Value.{Value}
use Rattle.rpt_base.specs.declared.values.Value.TheVariants as value
use Rattle.column_table.specs.declared.declared.ColumnDecl.{ColumnDecl}

-- the types of a table's columns, and its rows in order, each with a value for each column
pub record Rows : Type 0 where
  pub kinds : List ColumnType
  pub rows : List (List Value)

-- the same, and the values of a row that has begun
pub record OpenTable : Type 0 where
  pub kinds : List ColumnType
  pub rows : List (List Value)
  pub started : List Value

-- the rows, where the one that has begun is given up
abbrev pub ended_rows : OpenTable → Rows
ended_rows table = record { kinds = table.kinds; rows = table.rows }

-- the type of the next value of the row that has begun
abbrev pub next_kind : OpenTable → Option ColumnType
next_kind table = slice_get table.kinds (length table.started)

-- one value more in the row that has begun
abbrev pub with_value : OpenTable → Value → OpenTable
with_value table v = record table { started = table.started ++ v ∷ [] }

-- the row that has begun is the last
abbrev pub with_row_ended : OpenTable → OpenTable
with_row_ended table =
    record { kinds = table.kinds; rows = table.rows ++ table.started ∷ []; started = [] }

-- the types of declared columns
abbrev pub types_of : List ColumnDecl → List ColumnType
types_of columns = map (λ (c : ColumnDecl). c.kind) columns

-- the type of a value
abbrev pub type_of_value : Value → ColumnType
type_of_value (value.Int z) = kind.Int
type_of_value (value.Text text) = kind.Text

-- the value is of this type
abbrev pub has_type : ColumnType → Value → Bool
has_type kind.Int (value.Int z) = true
has_type kind.Int (value.Text text) = false
has_type kind.Text (value.Int z) = false
has_type kind.Text (value.Text text) = true

-- there is a value for each column, and of its type
abbrev pub has_types : List ColumnType → List Value → Bool
has_types [] [] = true
has_types [] (v ∷ values) = false
has_types (k ∷ kinds) [] = false
has_types (k ∷ kinds) (v ∷ values) = has_type k v && has_types kinds values

-- the value that a cell shows
abbrev pub value_of : Cell → Value
value_of (cell.Int z) = value.Int z
value_of (cell.Text text) = value.Text text.now

-- what is read where there is no value
abbrev pub no_value : Value
no_value = value.Int (pos 0)

-- a row of a table, and the value in a row and a column
abbrev pub row_at : Rows → ℕ → List Value
row_at table row = slice_index_or table.rows row []

abbrev pub value_at : Rows → ℕ → ℕ → Value
value_at table row column = slice_index_or (row_at table row) column no_value

-- the value in a row and a column, where the table has both
abbrev pub value_there : Rows → ℕ → ℕ → Option Value
value_there table row column = option_and_then (λ values. slice_get values column) (slice_get table.rows row)

-- a text that a cell shows is UTF-8
abbrev pub IsUtf8Cell : Cell → Type 0
IsUtf8Cell (cell.Int z) = Unit {0}
IsUtf8Cell (cell.Text text) = IsUtf8 text.now
