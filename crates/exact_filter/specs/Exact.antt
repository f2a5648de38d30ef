-- Codes and items as numbers with a bit each.
-- Words of this crate's own contracts.
use Rattle.std.specs.Prelude.{◌≡◌, ◌≢◌, ◌⊎◌, ℕ, List, bit_and}
use Rattle.std.specs.Int.{div_ceil}
use Rattle.std.specs.List.{range_with_len}
use Rattle.key_codes.specs.Placement.{Kind, Places, place_of_number}
use Rattle.key_codes.specs.Placement.Kind.{Exact}
use Rattle.exact_filter.specs.declared.exact.Exact as codes
use Rattle.exact_filter.specs.declared.rows.RowPlaces as rows

-- numbers have a bit each
abbrev pub exact : Kind
exact = Exact

-- the bits of two numbers are in different words, or are different ones
abbrev pub AreApart : ℕ → ℕ → ℕ → Type 0
AreApart n m words =
    let p = place_of_number exact n words in
    let q = place_of_number exact m words in
    (p.word ≢ q.word) ⊎ (bit_and p.mask q.mask ≡ 0)

-- items by codes below a count
abbrev pub exact_places : List ℕ → ℕ → Places
exact_places codes count = record { kind = Exact; numbers = codes; least = div_ceil count 64 }

-- so many items by themselves
abbrev pub row_places : ℕ → Places
row_places items = exact_places (range_with_len 0 items) items

abbrev pub seen_codes : codes.Exact → Places
seen_codes it = exact_places it.codes.items it.count

abbrev pub seen_rows : rows.RowPlaces → Places
seen_rows it = row_places it.items
