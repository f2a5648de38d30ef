-- Rows with equal values in linked columns.
-- Words of this crate's own contracts.
use Rattle.std.specs.Prelude.{ℕ, ◌<◌, Bool, List, length}
use Rattle.std.specs.List.{All, list_all}
use Rattle.rpt_base.specs.Values.{are_equal}
use Rattle.column_table.specs.Table.{Rows, value_at}

-- a row of the table has equal values in both columns
abbrev pub has_equal : Rows → ℕ → ℕ × ℕ → Bool
has_equal table row p = are_equal (value_at table row p.0) (value_at table row p.1)

-- a row of the table has equal values in both columns of each pair
abbrev pub is_linked : Rows → List (ℕ × ℕ) → ℕ → Bool
is_linked table pairs row = list_all (has_equal table row) pairs

-- each pair is one of columns of the table
abbrev pub AreColumns : Rows → List (ℕ × ℕ) → Type 0
AreColumns table pairs = All (λ p. (p.0 < length table.kinds) × (p.1 < length table.kinds)) pairs

-- each number is that of a row of the table
abbrev pub AreRows : Rows → List ℕ → Type 0
AreRows table rows = All (λ row. row < length table.rows) rows
