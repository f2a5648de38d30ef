-- Where things stand among the words of a board.
-- Words of this crate's own contracts.
use Rattle.std.specs.Prelude.{◌≡◌, ℕ, zero, suc, ◌+◌, ◌<◌, List, [], ◌∷◌, length, replicate, slice_index, slice_index_or}
use Rattle.transfer_core.specs.Counts.{total}
use Rattle.transfer_core.specs.Plans.{Shape}
use Rattle.transfer_core.specs.Sealed.{Regions}

-- how many words the regions before region r have, by the words of each
abbrev pub offset : List ℕ → ℕ → ℕ
offset [] r = 0
offset (n ∷ counts) zero = 0
offset (n ∷ counts) (suc r) = n + offset counts r

-- the words are a counter of drawn morsels for each pipe, one of finished morsels for each pipe, and the words of all regions
module _ (s : Shape) where
  abbrev pub word_count : ℕ
  word_count = length s.pipes + length s.pipes + total (λ n. n) s.words

  -- at first they are all 0
  abbrev pub first_words : List ℕ
  first_words = replicate word_count 0

  -- where word w of region r stands
  abbrev pub index_of : ℕ → ℕ → ℕ
  index_of r w = length s.pipes + length s.pipes + (offset s.words r + w)

  -- what the words say: how many draws of pipe p there were, also of those that found no morsel left; how many of its morsels are
  -- finished; and the regions
  abbrev pub drawn_of : List ℕ → ℕ → ℕ
  drawn_of words p = slice_index words p

  abbrev pub done_of : List ℕ → ℕ → ℕ
  done_of words p = slice_index words (length s.pipes + p)

  abbrev pub regions_in : List ℕ → Regions
  regions_in words r w = slice_index words (index_of r w)

-- each region begins where the one before it ends
pub record AreStarts (counts starts : List ℕ) : Type 0 where
  pub count : length starts ≡ length counts
  pub each : (r : ℕ) → r < length counts → slice_index starts r ≡ offset counts r

-- there is room for the words of each region
pub record AreRooms (counts : List ℕ) (rooms : List (List ℕ)) : Type 0 where
  pub count : length rooms ≡ length counts
  pub each : (r : ℕ) → r < length counts → length (slice_index_or rooms r []) ≡ slice_index counts r
