-- The table of a file.
use Rattle.std.specs.Prelude.{ℕ, ◌-◌, ◌^◌, ◌==◌, ◌&&◌, nat_le, Bool, List}
use Rattle.std.specs.Prelude.{[], ◌∷◌, length, map, Option, None, Some, Result}
use Rattle.std.specs.Prelude.{Ok, Err, count_by, slice_index_or, if◌then◌else◌}
use Rattle.std.specs.List.{enumerate_from, position_or_len}
use Rattle.std.specs.Option.{ok_or}
use Rattle.std.specs.Str.{bytes_eq, str_to_ascii_lowercase}
use Rattle.csv.specs.Reading.{default_config, records, strip_bom}
use Rattle.rpt_base.specs.declared.values.ColumnType.{ColumnType}
use Rattle.rpt_base.specs.declared.values.ColumnType.TheVariants as kind
use Rattle.rpt_base.specs.declared.values.Value.{Value}
use Rattle.rpt_base.specs.declared.values.Value.TheVariants as value
use Rattle.column_table.specs.declared.declared.ColumnDecl.{ColumnDecl}
use Rattle.column_table.specs.FieldText.{field_value}
use Rattle.csv_load.specs.declared.errors.LoadError.{LoadError}
use Rattle.csv_load.specs.declared.errors.LoadError.TheVariants.{Header, Ragged, BadField}
use Rattle.csv_load.specs.declared.errors.LoadError.TheVariants.{NotUtf8, TooManyRows}

-- all members, or the first refusal
abbrev pub all_ok : {X E : Type 0} → List (Result X E) → Result (List X) E
all_ok [] = Ok []
all_ok (Err e ∷ members) = Err e
all_ok (Ok x ∷ members) = front x (all_ok members)
  where
    front : {X E : Type 0} → X → Result (List X) E → Result (List X) E
    front x (Ok xs) = Ok (x ∷ xs)
    front x (Err e) = Err e

-- the bytes of each field of a record
abbrev pub Fields : Type 0
Fields = List (List ℕ)

-- the values of each row of a table
abbrev pub RowValues : Type 0
RowValues = List (List Value)

-- the byte records of a file, the header first
abbrev pub file_records : List ℕ → List Fields
file_records bytes = records default_config (strip_bom bytes)

-- the header's field is this column's name, whatever the case of its ASCII letters
abbrev pub is_named : List ℕ → List ℕ → Bool
is_named name field = bytes_eq (str_to_ascii_lowercase field) name

-- the place of the header's one field with this name; none where no field has it, or more than one
abbrev pub place_in : Fields → List ℕ → Option ℕ
place_in header name =
    if count_by (is_named name) header == 1
    then Some (position_or_len (is_named name) header) else None

-- a declared column's place in the header, or its refusal
abbrev pub place_of : Fields → ℕ × ColumnDecl → Result ℕ LoadError
place_of header (column, c) = ok_or (place_in header c.name) (Header column)

-- the places of the declared columns, or the refusal of the first that has none
abbrev pub places_of : List ColumnDecl → Fields → Result (List ℕ) LoadError
places_of columns header = all_ok (map (place_of header) (enumerate_from 0 columns))

-- the refusal of a field that is bad in a column of this type
abbrev pub fault_of : ColumnType → ℕ → ℕ → LoadError
fault_of kind.Int row column = BadField row column
fault_of kind.Text row column = NotUtf8 row column

-- a record's field in the column of this name
abbrev pub field_of : Fields → Fields → List ℕ → List ℕ
field_of header fields name = slice_index_or fields (position_or_len (is_named name) header) []

-- the value of a record in a declared column, or the refusal of its field
abbrev pub cell_of : ℕ → Fields → Fields → ℕ × ColumnDecl → Result Value LoadError
cell_of row header fields (column, c) =
    ok_or (field_value c.kind (field_of header fields c.name)) (fault_of c.kind row column)

-- the values of a record in the declared columns; or its refusal: as ragged, or of its first bad field in the order of the columns
abbrev pub cells_of : List ColumnDecl → Fields → ℕ → Fields → Result (List Value) LoadError
cells_of columns header row fields =
    if length fields == length header
    then all_ok (map (cell_of row header fields) (enumerate_from 0 columns)) else Err (Ragged row)

-- the row of a record; at the limit the record is one too many, whatever it holds
abbrev pub row_of : ℕ → List ColumnDecl → Fields → ℕ × Fields → Result (List Value) LoadError
row_of limit columns header (row, fields) =
    if nat_le limit row then Err TooManyRows else cells_of columns header row fields

-- the rows of the records, or the refusal of the first bad one
abbrev pub rows_of : ℕ → List ColumnDecl → Fields → List Fields → Result RowValues LoadError
rows_of limit columns header records =
    all_ok (map (row_of limit columns header) (enumerate_from 0 records))

-- the rows under a header that has each declared column once; its refusal comes before those of the records
abbrev pub rows_under : ℕ → List ColumnDecl → Fields → List Fields → Result RowValues LoadError
rows_under limit columns header records = behind (places_of columns header)
  where
    behind : Result (List ℕ) LoadError → Result RowValues LoadError
    behind (Ok places) = rows_of limit columns header records
    behind (Err e) = Err e

-- the rows of records with at most so many rows, the header first, or their refusal; without records the header has no field
abbrev pub table_in : ℕ → List ColumnDecl → List Fields → Result RowValues LoadError
table_in limit columns [] = rows_under limit columns [] []
table_in limit columns (header ∷ records) = rows_under limit columns header records

-- the rows of a file with at most so many rows, or its refusal
abbrev pub file_table : ℕ → List ColumnDecl → List ℕ → Result RowValues LoadError
file_table limit columns bytes = table_in limit columns (file_records bytes)
