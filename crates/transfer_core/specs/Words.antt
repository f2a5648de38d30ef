-- Words of regions as lists.
use Rattle.std.specs.Prelude.{◌≡◌, ◌<◌, ℕ, List, [], bit_or, length, map, slice_index, slice_index_or, slice_set}
use Rattle.std.specs.List.{range_with_len}
use Rattle.transfer_core.specs.declared.plan.Pipe.{Pipe}
use Rattle.transfer_core.specs.declared.plan.Port.{Port}
use Rattle.transfer_core.specs.Job.{writer}
use Rattle.transfer_core.specs.Plans.{Shape, words_of}
use Rattle.transfer_core.specs.Sealed.{Regions, or_of_passing, sealed}

-- the regions that have these words
abbrev pub regions_of : List (List ℕ) → Regions
regions_of words r w = slice_index (slice_index_or words r []) w

-- the words once a mask is put into one of them
abbrev pub put_in : List (List ℕ) → ℕ → ℕ → ℕ → List (List ℕ)
put_in words r w mask = slice_set words r (slice_set (slice_index_or words r []) w (bit_or (regions_of words r w) mask))

-- each region has the words that the plan says
pub record AreSized (s : Shape) (words : List (List ℕ)) : Type 0 where
  pub regions : length words ≡ length s.words
  pub each : (r : ℕ) → r < length s.words → length (slice_index_or words r []) ≡ words_of s r

-- the words that a region of a plan has, and the words of all its regions
abbrev pub region_words : Shape → Regions → ℕ → List ℕ
region_words s regions r = map (regions r) (range_with_len 0 (words_of s r))

abbrev pub lists_of : Shape → Regions → List (List ℕ)
lists_of s regions = map (region_words s regions) (range_with_len 0 (length s.words))

-- the sealed words of a plan's regions
abbrev pub sealed_words : Shape → List (List ℕ)
sealed_words s = lists_of s (sealed s)

-- what the items of a pipe that pass, by these words, put into the region of one of its ports
abbrev pub filled_words : Shape → List (List ℕ) → Pipe → Port → List ℕ
filled_words s words x a = map (or_of_passing s (regions_of words) x a) (range_with_len 0 (words_of s a.region))

-- the regions that pipes before p write have their sealed words
pub record AreSealedBelow (s : Shape) (p : ℕ) (words : List (List ℕ)) : Type 0 where
  pub sized : AreSized s words
  pub sealed : (r w : ℕ) → r < length s.words → w < words_of s r → writer s.pipes r < p → regions_of words r w ≡ sealed s r w
