-- What each row of a table has.
use Rattle.std.proofs.Common.{◌≡◌, ◌∙◌, ◌<◌, ℕ, suc, List, [], ◌∷◌, length, get_or, refl, ap, arith, IsTrue}
use Rattle.std.specs.List.{list_all}
use Rattle.std.proofs.lemmas.Bool.{and_parts}
use Rattle.std.proofs.lemmas.Option.{slice_get-get_or}
use Rattle.rpt_base.specs.declared.values.ColumnType.{ColumnType}
use Rattle.rpt_base.specs.declared.values.Value.{Value}
use Rattle.column_table.specs.Table.{Rows, has_type, has_types}
use Rattle.column_table.proofs.ListFacts.{all-at}

-- values of these types are as many
pub types-length : (kinds : List ColumnType) (row : List Value) → IsTrue (has_types kinds row) → length row ≡ length kinds
types-length [] [] h = refl
types-length [] (v ∷ row) h = cc
types-length (k ∷ kinds) [] h = cc
types-length (k ∷ kinds) (v ∷ row) h = ap suc (types-length kinds row (and_parts (has_type k v) (has_types kinds row) h).1)

-- a row has a value for each column
pub row-length : (table : Rows) (row : ℕ) → IsTrue (list_all (has_types table.kinds) table.rows) → row < length table.rows → length (get_or table.rows row []) ≡ length table.kinds
row-length table row typed lt =
    types-length table.kinds (get_or table.rows row []) (all-at (has_types table.kinds) table.rows row (get_or table.rows row []) typed (slice_get-get_or table.rows row [] lt))
