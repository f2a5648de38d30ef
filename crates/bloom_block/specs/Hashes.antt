-- Where a hash stands in the words of a region.
use Rattle.std.specs.Prelude.{ℕ, List, max}
use Rattle.std.specs.Int.{div_ceil}
use Rattle.key_codes.specs.declared.places.Place.{Place}
use Rattle.key_codes.specs.Placement.{Places, place_of_number}
use Rattle.key_codes.specs.Placement.Kind.{Bloom}

-- the place of a hash in so many words
abbrev pub hash_place : ℕ → ℕ → Place
hash_place hash words = place_of_number Bloom hash words

-- how many words a filter of so many rows has: one for every four of them, and at least one
abbrev pub bloom_words : ℕ → ℕ
bloom_words rows = max 1 (div_ceil rows 4)

-- items by their hashes, which can stand in any region that has a word
abbrev pub bloom_places : List ℕ → Places
bloom_places hashes = record { kind = Bloom; numbers = hashes; least = 1 }
