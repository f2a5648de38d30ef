-- Which items a run keeps.
--
-- Of the pipes that write with a relation's placement of rows the latest says so, by the last of the regions that it writes
-- with it: an item is kept where this region, as sealed, has its bit.
use Rattle.std.specs.Prelude.{ℕ, ◌*◌, ◌/◌, ◌%◌, ◌^◌, ◌<◌, ◌≤◌, ◌==◌, Bool, List, [], ◌∷◌, IsTrue, bit_and, count_by, filter}
use Rattle.std.specs.Prelude.{length, map, slice_index, slice_index_or}
use Rattle.std.specs.List.{flat_map, list_any, range_with_len}
use Rattle.transfer_core.specs.declared.plan.Pipe.{Pipe}
use Rattle.transfer_core.specs.declared.plan.Port.{Port}
use Rattle.transfer_core.specs.Plans.{Shape}
use Rattle.transfer_core.specs.Words.{regions_of, sealed_words}

-- a region, and how many items the pipe has that writes it
pub record Written : Type 0 where
  pub region : ℕ
  pub items : ℕ

-- the words of the regions, and the pipes of the plan
pub record Run : Type 0 where
  pub words : List (List ℕ)
  pub pipes : List Pipe

-- a run that gives the sealed words
abbrev pub sealed_run : Shape → Run
sealed_run s = record { words = sealed_words s; pipes = s.pipes }

-- the last one, or this where there is none
abbrev pub last_of : {A : Type 0} → A → List A → A
last_of d [] = d
last_of d (x ∷ xs) = last_of x xs

-- what the ports of a pipe with so many items write with a placement, and what all pipes do, in order
abbrev pub written_by : ℕ → ℕ → List Port → List Written
written_by places items ports = map (λ a. record { region = a.region; items = items }) (filter (λ a. a.places == places) ports)

abbrev pub written_with : ℕ → List Pipe → List Written
written_with places pipes = flat_map (λ x. written_by places x.items x.writes) pipes

-- where nothing is
abbrev pub nowhere : Written
nowhere = record { region = 0; items = 0 }

-- what is written last with a placement
abbrev pub kept_among : ℕ → List Pipe → Written
kept_among places pipes = last_of nowhere (written_with places pipes)

-- some port writes with this placement
abbrev pub is_written_with : ℕ → List Pipe → Bool
is_written_with places pipes = list_any (λ x. list_any (λ a. a.places == places) x.writes) pipes

-- the region has the bit of an item, 64 items to a word
abbrev pub has_bit : List (List ℕ) → ℕ → ℕ → Bool
has_bit words r item = bit_and (regions_of words r (item / 64)) (2 ^ (item % 64)) == 2 ^ (item % 64)

-- how many items a relation has, by the pipe that says which are kept
abbrev pub item_count : Run → ℕ → ℕ
item_count run relation = (kept_among relation run.pipes).items

-- an item of a relation is kept: the region that is written last with the relation's rows has its bit
abbrev pub is_kept : Run → ℕ → ℕ → Bool
is_kept run relation item = has_bit run.words (kept_among relation run.pipes).region item

-- how many are
abbrev pub kept_count : Run → ℕ → ℕ
kept_count run relation = count_by (is_kept run relation) (range_with_len 0 (item_count run relation))

-- the rows of those that are, in order
abbrev pub kept_rows : Run → ℕ → List ℕ → List ℕ
kept_rows run relation rows = map (slice_index rows) (filter (is_kept run relation) (range_with_len 0 (length rows)))

-- A run can tell which items of a relation it keeps: some pipe writes with the relation's placement, and the region has a word
-- for every 64 items.
pub record CanTell (run : Run) (relation : ℕ) : Type 0 where
  pub written : IsTrue (is_written_with relation run.pipes)
  pub region : (kept_among relation run.pipes).region < length run.words
  pub words : item_count run relation ≤ 64 * length (slice_index_or run.words (kept_among relation run.pipes).region [])
