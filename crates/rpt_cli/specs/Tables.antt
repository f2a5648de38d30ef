-- A table from its file.
use Rattle.std.specs.Prelude.{ℕ, ◌++◌, List, [], Result, Ok, Err, codes, slice_get}
use Rattle.std.specs.Option.{option_map_or}
use Rattle.rpt_base.specs.declared.limits.TheConstants.{MAX_ROWS}
use Rattle.rpt_base.specs.declared.values.Value.{Value}
use Rattle.column_table.specs.Table.{Rows, types_of}
use Rattle.column_table.specs.declared.declared.ColumnDecl.{ColumnDecl}
use Rattle.column_table.specs.declared.declared.Decl.{Decl}
use Rattle.csv_load.specs.FileTable.{file_table}
use Rattle.csv_load.specs.declared.errors.LoadError.{LoadError}
use Rattle.csv_load.specs.declared.errors.LoadError.TheVariants as load_error
use Rattle.refusal_lines.specs.declared.errors.Refusal.{Refusal}
use Rattle.refusal_lines.specs.declared.errors.Refusal.TheVariants.{Header, Ragged, BadField, NotUtf8, TooManyRows, Memory}

-- the file of a table
abbrev pub table_file : List ℕ → List ℕ → List ℕ
table_file folder table = folder ++ (codes "/" ++ (table ++ codes ".csv"))

-- the name of a declared column; none where there is no column of this number
abbrev pub name_at : List ColumnDecl → ℕ → List ℕ
name_at columns column = option_map_or (λ (c : ColumnDecl). c.name) (slice_get columns column) []

-- the refusal of a table, with its name and that of the column
abbrev pub refusal_of : Decl → LoadError → Refusal
refusal_of decl (load_error.Header column) = Header decl.name (name_at decl.columns column)
refusal_of decl (load_error.Ragged row) = Ragged decl.name row
refusal_of decl (load_error.BadField row column) = BadField decl.name row (name_at decl.columns column)
refusal_of decl (load_error.NotUtf8 row column) = NotUtf8 decl.name row (name_at decl.columns column)
refusal_of decl load_error.TooManyRows = TooManyRows
refusal_of decl load_error.Memory = Memory

-- a table with these rows, or its refusal
abbrev pub table_or : Decl → Result (List (List Value)) LoadError → Result Rows Refusal
table_or decl (Ok rows) = Ok (record { kinds = types_of decl.columns; rows = rows })
table_or decl (Err e) = Err (refusal_of decl e)

-- a table from the bytes of its file, or why there is none
abbrev pub table_of : Decl → List ℕ → Result Rows Refusal
table_of decl bytes = table_or decl (file_table MAX_ROWS decl.columns bytes)
