-- The tables of a query's relations.
use Rattle.std.proofs.Common.{◌≡◌, ◌∙◌, ◌<◌, ap, sym, arith, ℕ, List, [], Some, get_or, length}
use Rattle.std.specs.Prelude.{slice_get, slice_index}
use Rattle.std.proofs.lemmas.List.{get_or_read, length-map}
use Rattle.std.proofs.lemmas.Option.{get_or_from_slice_get}
use Rattle.std.proofs.Math.ListN.{get_or-map}
use Rattle.std.proofs.lemmas.List.{get_or-map as get_or-map_within}
use Rattle.column_table.specs.Table.{Rows, types_of}
use Rattle.column_table.specs.declared.declared.ColumnDecl.{ColumnDecl}
use Rattle.column_table.specs.declared.declared.Decl.{Decl}
use Rattle.column_classes.specs.Variables.{IsColumn, column_of}
use Rattle.bound_query.specs.Query.{Query, columns_in, columns_of, kinds_of, widths_of}
use Rattle.bound_query.specs.Answer.{AreTables, table_at}

-- a relation's table has the columns that the query declares
pub table_at-kinds : (q : Query) (tables : List Rows) (r : ℕ) → AreTables q tables → (table_at q tables r).kinds ≡ kinds_of q r
table_at-kinds q tables r are =
    let i = slice_index q.table_of r in
    sym (get_or-map (λ (t : Rows). t.kinds) tables i (record { kinds = []; rows = [] }))
    ∙ ap (λ kinds. get_or kinds i []) are
    ∙ get_or-map (λ (d : Decl). types_of d.columns) q.tables i (record { name = []; columns = [] })

-- there are as many tables as are declared
pub tables-length : (q : Query) (tables : List Rows) → AreTables q tables → length tables ≡ length q.tables
tables-length q tables are =
    sym (length-map tables (λ (t : Rows). t.kinds)) ∙ ap length are ∙ length-map q.tables (λ (d : Decl). types_of d.columns)

-- the table that is read is the relation's
pub table_at-read : (q : Query) (tables : List Rows) (r i : ℕ) (t : Rows) → AreTables q tables → slice_get q.table_of r ≡ Some i → i < length q.tables → t ≡ get_or tables i t
    → t ≡ table_at q tables r
table_at-read q tables r i t are of lt is =
    get_or_read tables i t (omega (arith, tables-length q tables are)) is (record { kinds = []; rows = [] })
    ∙ ap (λ j. get_or tables j (record { kinds = []; rows = [] })) (sym (get_or_from_slice_get q.table_of r i 0 of))

-- a column of a query is one of its relation's table
pub column-within : (q : Query) (r i : ℕ) → r < length q.table_of → IsColumn (widths_of q) (column_of r i) → i < length (kinds_of q r)
column-within q r i lt is =
    let width : get_or (widths_of q) r 0 ≡ length (columns_of q r) = get_or-map_within (λ t. length (columns_in q.tables t)) q.table_of r 0 0 lt in
    let count : length (kinds_of q r) ≡ length (columns_of q r) = length-map (columns_of q r) (λ (d : ColumnDecl). d.kind) in
    omega (arith, width, count, is.1)
