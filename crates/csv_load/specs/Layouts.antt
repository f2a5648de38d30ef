-- How the records of a file are laid out.
-- Words of this crate's own contracts.
use Rattle.std.specs.Prelude.{◌≡◌, ◌≤◌, ℕ, List, length, Result, Ok}
use Rattle.rpt_base.specs.declared.limits.TheConstants.{MAX_COLUMNS}
use Rattle.rpt_base.specs.declared.values.Value.{Value}
use Rattle.column_table.specs.declared.declared.ColumnDecl.{ColumnDecl}
use Rattle.csv_load.specs.declared.errors.LoadError.{LoadError}
use Rattle.csv_load.specs.FileTable.{Fields, RowValues, cells_of, places_of, rows_of}

-- the declared columns, the header that names the fields of each record, and the columns' places in it
pub record FileLayout : Type 0 where
  pub columns : List ColumnDecl
  pub header : Fields
  pub places : List ℕ

abbrev pub layout_of : List ColumnDecl → Fields → List ℕ → FileLayout
layout_of columns header places = record { columns = columns; header = header; places = places }

-- the columns, of which there are not too many, have these places in the header
abbrev pub IsLayout : List ColumnDecl → Fields → List ℕ → Type 0
IsLayout columns header places =
    (places_of columns header ≡ Ok places) × (length columns ≤ MAX_COLUMNS)

-- the values of a record, and the rows of records, under a layout
abbrev pub cells_in : FileLayout → ℕ → Fields → Result (List Value) LoadError
cells_in layout row fields = cells_of layout.columns layout.header row fields

abbrev pub rows_in : ℕ → FileLayout → List Fields → Result RowValues LoadError
rows_in limit layout records = rows_of limit layout.columns layout.header records
