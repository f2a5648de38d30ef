-- What actors know.
-- Words of this crate's own contracts.
use Rattle.std.specs.Prelude.{◌≡◌, ℕ, ◌<◌, ◌==◌, ◌&&◌, if◌then◌else◌, List, [], ◌∷◌, ◌++◌, Bool, true, false, replicate}
use Rattle.std.specs.Prelude.{slice_index_or, slice_set}
use Rattle.std.specs.List.{list_any}
use mathlib.Core.Option.{some}
use lib.ListN.{get_elem?}
use Rattle.transfer_core.specs.Counts.{times}

-- what an actor knows: the pipe and the morsel that it holds, at most one pair; the item and the port of each put for it; the morsels that
-- it has finished, with their pipes; and for each pipe a mark, whether it has seen the pipe full
pub record Actor : Type 0 where
  pub held : List (ℕ × ℕ)
  pub puts : List (ℕ × ℕ)
  pub finished : List (ℕ × ℕ)
  pub seen : List Bool

abbrev pub actor : List (ℕ × ℕ) → List (ℕ × ℕ) → List (ℕ × ℕ) → List Bool → Actor
actor held puts finished seen = record { held = held; puts = puts; finished = finished; seen = seen }

-- ---- lists of pairs, and marks
abbrev pub nothing : List (ℕ × ℕ)
nothing = []

-- one morsel of a pipe
abbrev pub holding : ℕ → ℕ → List (ℕ × ℕ)
holding p m = (p, m) ∷ []

-- the morsels of one pipe, among pairs of a pipe and a morsel
abbrev pub morsels_of : ℕ → List (ℕ × ℕ) → List ℕ
morsels_of p [] = []
morsels_of p (x ∷ xs) = if x.0 == p then x.1 ∷ morsels_of p xs else morsels_of p xs

-- a put is among those that are listed
abbrev pub is_listed : ℕ → ℕ → List (ℕ × ℕ) → Bool
is_listed item port puts = list_any (λ x. (x.0 == item) && (x.1 == port)) puts

-- a pipe is marked
abbrev pub is_marked : List Bool → ℕ → Bool
is_marked marks p = slice_index_or marks p false

-- ---- what is said of an actor
-- it holds no morsel
abbrev pub HoldsNone : Actor → Type 0
HoldsNone a = a.held ≡ nothing

-- it holds morsel m of pipe p
abbrev pub Holds : Actor → ℕ → ℕ → Type 0
Holds a p m = a.held ≡ holding p m

-- it has finished morsel m of pipe p
abbrev pub HasFinished : Actor → ℕ → ℕ → Type 0
HasFinished a p m = 0 < times m (morsels_of p a.finished)

-- its k-th listed put is of an item into the region of a port
abbrev pub ListsPut : Actor → ℕ → ℕ → ℕ → Type 0
ListsPut a k item port = get_elem? a.puts k ≡ some (item, port)

-- it has seen pipe p full
abbrev pub HasSeen : Actor → ℕ → Type 0
HasSeen a p = is_marked a.seen p ≡ true

-- ---- an actor that knows nothing, and what steps change
abbrev pub idle : ℕ → Actor
idle pipes = actor nothing nothing nothing (replicate pipes false)

-- it holds a morsel, for which nothing is put yet
abbrev pub with_morsel : ℕ → ℕ → Actor → Actor
with_morsel p m a = actor (holding p m) nothing a.finished a.seen

-- it lists a put, if it isn't listed yet
abbrev pub with_put : ℕ → ℕ → Actor → Actor
with_put item port a = actor a.held (if is_listed item port a.puts then a.puts else a.puts ++ (item, port) ∷ []) a.finished a.seen

-- it holds nothing, and what it held is finished
abbrev pub with_finished : List (ℕ × ℕ) → Actor → Actor
with_finished held a = actor nothing nothing (a.finished ++ held) a.seen

-- it has seen pipe p full
abbrev pub with_seen : ℕ → Actor → Actor
with_seen p a = actor a.held a.puts a.finished (slice_set a.seen p true)
