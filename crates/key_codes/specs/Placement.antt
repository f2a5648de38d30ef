-- Where a number stands in the words of a region.
use Rattle.std.specs.Prelude.{ℕ, ◌≢◌, ◌*◌, ◌/◌, ◌%◌, ◌^◌, ◌<◌, ◌≤◌, All, List, bit_or, length, slice_index}
use Rattle.key_codes.specs.declared.places.Place.{Place}

-- how a number becomes a place
pub data Kind : Type 0 where
  -- four bits, of a word among all: numbers are hashes
  Bloom : Kind
  -- a bit of its own: numbers are codes or items
  Exact : Kind

-- the items' numbers, and the fewest words in which they can stand
pub record Places : Type 0 where
  pub kind : Kind
  pub numbers : List ℕ
  pub least : ℕ

-- the place of a number in so many words
abbrev pub place_of_number : Kind → ℕ → ℕ → Place
place_of_number Bloom n words = record {
  word = n / 2 ^ 32 * words / 2 ^ 32;
  mask =
      bit_or
      (bit_or (2 ^ (n % 64)) (2 ^ (n / 2 ^ 6 % 64)))
      (bit_or (2 ^ (n / 2 ^ 12 % 64)) (2 ^ (n / 2 ^ 18 % 64)));
}
place_of_number Exact n words = record { word = n / 64; mask = 2 ^ (n % 64) }

-- the place of an item
abbrev pub place_of : Places → ℕ → ℕ → Place
place_of places item words = place_of_number places.kind (slice_index places.numbers item) words

-- each place is in its region, and has a bit
pub record IsLawful (places : Places) : Type 0 where
  pub inside :
      (item words : ℕ) → item < length places.numbers → places.least ≤ words → 1 ≤ words
      → (place_of places item words).word < words
  pub some_bit :
      (item words : ℕ) → item < length places.numbers → places.least ≤ words → 1 ≤ words
      → (place_of places item words).mask ≢ 0

-- each of these placements is lawful
abbrev pub AreLawful : List Places → Type 0
AreLawful places = All (λ p. IsLawful p) places
