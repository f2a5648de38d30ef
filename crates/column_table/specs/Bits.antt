-- One bit for each row.
-- Words of this crate's own contracts.
use Rattle.std.specs.Prelude.{ℕ, ◌+◌, ◌*◌, ◌/◌, ◌%◌, ◌<◌, ◌≤◌, ◌≡◌, ◌==◌, Bool, false}
use Rattle.std.specs.Prelude.{List, length, filter, map, slice_index, slice_index_or}
use Rattle.std.specs.Int.{bit_at}
use Rattle.std.specs.List.{range_with_len}

-- the numbers of the rows whose bit is set, rising
abbrev pub set_rows : List Bool → List ℕ
set_rows bits = filter (λ row. slice_index_or bits row false) (range_with_len 0 (length bits))

-- whether a row's bit is set in words of 64 bits, each from the lowest bit on
abbrev pub is_set_in : List ℕ → ℕ → Bool
is_set_in words row = bit_at (slice_index words (row / 64)) (row % 64) == 1

-- the bits of so many rows
abbrev pub bits_of : List ℕ → ℕ → List Bool
bits_of words rows = map (is_set_in words) (range_with_len 0 rows)

-- there are as many words as the rows need, whose number fits 32 bits, and no bit past the rows is set
pub record AreBits (words : List ℕ) (rows : ℕ) : Type 0 where
  pub few : rows < 4294967296
  pub enough : rows ≤ 64 * length words
  pub no_more : 64 * length words < rows + 64
  pub rest : (row : ℕ) → rows ≤ row → is_set_in words row ≡ false
