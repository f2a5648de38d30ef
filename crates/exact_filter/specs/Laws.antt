-- The laws of exact places. They stand here since what a placement's ghost members cite stands in specs.
-- Words of this crate's own contracts.
use Rattle.std.proofs.Common.{◌≡◌, ◌≢◌, ℕ, ◌/◌, ◌^◌, ◌<◌, ◌≤◌, All, List, length, get_or, arith}
use Rattle.std.specs.Int.{div_ceil}
use Rattle.std.specs.List.{range_with_len}
use Rattle.std.proofs.Math.Nat.{one-le-pow}
use Rattle.std.proofs.lemmas.Grind.{div_ceil_times}
use Rattle.std.proofs.lemmas.List.FromFn.{get_or-range_with_len, length-range_with_len}
use Rattle.key_codes.specs.Placement.{IsLawful}
use Rattle.exact_filter.specs.declared.exact.Exact as codes
use Rattle.exact_filter.specs.declared.rows.RowPlaces as rows
use Rattle.exact_filter.specs.Exact.{exact_places, seen_codes, seen_rows}

-- a number below a count has its word among those that the count needs
inside : (n count words : ℕ) → n < count → div_ceil count 64 ≤ words → n / 64 < words
inside n count words lt le = let t = (div_ceil_times count 64 (omega arith)).0 in omega (arith, t)

some_bit : (k : ℕ) → 2 ^ k ≢ 0
some_bit k e = let h = one-le-pow k 2 (omega arith) in omega arith

exact_lawful :
    (codes : List ℕ) (count : ℕ) → All (λ c. c < count) codes
    → IsLawful (exact_places codes count)
exact_lawful codes count below = record {
  inside = λ item words lt least some.
      inside (get_or codes item 0) count words (below item 0 lt) least;
  some_bit = λ item words lt least some. some_bit _;
}

pub lawful_codes : (it : codes.Exact) → IsLawful (seen_codes it)
lawful_codes it = exact_lawful it.codes.items it.count it.below

-- an item is its own number
pub row_number : (items item : ℕ) → item < items → get_or (range_with_len 0 items) item 0 ≡ item
row_number items item lt = omega (arith, get_or-range_with_len 0 items item 0 lt)

pub row_count : (items : ℕ) → length (range_with_len 0 items) ≡ items
row_count items = length-range_with_len 0 items

pub lawful_rows : (it : rows.RowPlaces) → IsLawful (seen_rows it)
lawful_rows it =
    let below : All (λ c. c < it.items) (range_with_len 0 it.items) = λ k d lt.
    let within : k < it.items = omega (arith, lt, row_count it.items) in
    omega (arith, within, get_or-range_with_len 0 it.items k d within) in
    exact_lawful (range_with_len 0 it.items) it.items below
