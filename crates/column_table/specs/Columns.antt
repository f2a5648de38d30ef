-- Columns, and the rows that they show.
-- Words of this crate's own contracts.
use Rattle.std.specs.Prelude.{ℕ, ◌≤◌, suc, zero, List, [], ◌∷◌, ◌++◌, ◌≡◌}
use Rattle.std.specs.Prelude.{pos, IsTrue, length, map, take, slice_index_or}
use Rattle.std.specs.List.{list_all, range_with_len}
use Rattle.rpt_base.specs.declared.limits.TheConstants.{MAX_ROWS}
use Rattle.rpt_base.specs.declared.values.ColumnType.{ColumnType}
use Rattle.rpt_base.specs.declared.values.Value.{Value}
use Rattle.rpt_base.specs.declared.values.Value.TheVariants as value
use Rattle.column_table.specs.Table.{OpenTable, has_type}

-- a column: its type, and its values from row 0 on
pub record OneColumn : Type 0 where
  pub kind : ColumnType
  pub values : List Value

-- the column with its first values alone
abbrev pub cut : OneColumn → ℕ → OneColumn
cut column count = record { kind = column.kind; values = take count column.values }

-- the same, and one value more
abbrev pub put : OneColumn → ℕ → Value → OneColumn
put column count v = record { kind = column.kind; values = take count column.values ++ v ∷ [] }

-- a column's value in a row
abbrev pub value_in : ℕ → OneColumn → Value
value_in row column = slice_index_or column.values row (value.Int (pos 0))

-- a row's values, column by column
abbrev pub row_in : List OneColumn → ℕ → List Value
row_in columns row = map (value_in row) columns

-- the columns' types, so many rows, and the row after them as far as it is filled
abbrev pub open_table_of : List OneColumn → ℕ → ℕ → OpenTable
open_table_of columns rows filled =
    record {
      kinds = map (λ c. c.kind) columns;
      rows = map (row_in columns) (range_with_len 0 rows);
      started = map (value_in rows) (take filled columns);
    }

-- the column has so many values at least, and all are of its type
pub record HasValues (count : ℕ) (column : OneColumn) : Type 0 where
  pub enough : count ≤ length column.values
  pub typed : IsTrue (list_all (has_type column.kind) column.values)

-- each column has a value for each row, and the first ones for the row after them
abbrev pub HaveRows : ℕ → ℕ → List OneColumn → Type 0
HaveRows rows filled [] = filled ≡ 0
HaveRows rows zero (c ∷ columns) = HasValues rows c × HaveRows rows zero columns
HaveRows rows (suc filled) (c ∷ columns) = HasValues (suc rows) c × HaveRows rows filled columns

-- that, and there are not too many
pub record IsOpenTable (columns : List OneColumn) (rows filled : ℕ) : Type 0 where
  pub have : HaveRows rows filled columns
  pub few_rows : rows ≤ MAX_ROWS
  pub few_columns : length columns ≤ 4294967294
