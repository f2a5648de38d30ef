-- The output columns of relations.
use Rattle.std.proofs.Common.{◌≡◌, ℕ, List, [], ◌∷◌, map}
use Rattle.std.specs.List.{flat_map}
use Rattle.std.proofs.lemmas.List.Concat.{flat_map_single}
use Rattle.sql_grammar.specs.declared.tree.ColumnItem.{ColumnItem}
use Rattle.binder.specs.Binding.{column_output}

-- column by column
pub shown-columns : (relation : ℕ) (columns : List (ℕ × ColumnItem)) → flat_map (λ c. column_output relation c ∷ []) columns ≡ map (column_output relation) columns
shown-columns relation columns = flat_map_single (column_output relation) columns
