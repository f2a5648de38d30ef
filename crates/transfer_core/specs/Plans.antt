-- Plans of pipes as contracts see them, and which of them are valid.
use Rattle.std.specs.Prelude.{◌≡◌, ℕ, ◌%◌, ◌^◌, ◌<◌, ◌≤◌, ◌==◌, ◌&&◌, nat_lt, nat_le, All, Bool, IsTrue, List, [], filter}
use Rattle.std.specs.Prelude.{length, map, slice_index, slice_index_or, sum_by, take}
use Rattle.std.specs.List.{list_all, list_any}
use Rattle.rpt_base.specs.Limits.{IsMorsel}
use Rattle.key_codes.specs.Placement.{Places, place_of}
use Rattle.key_codes.specs.Placement.Kind.{Exact}
use Rattle.key_codes.specs.declared.places.Place.{Place}
use Rattle.transfer_core.specs.declared.plan.Pipe.{Pipe}
use Rattle.transfer_core.specs.declared.plan.Plan.{Plan}
use Rattle.transfer_core.specs.declared.plan.Port.{Port}

-- a plan: the items of a morsel, the words of each region, the placements and the pipes
pub record Shape : Type 0 where
  pub morsel : ℕ
  pub words : List ℕ
  pub places : List Places
  pub pipes : List Pipe

-- the plan whose placements are seen like this
abbrev pub shape_of : {P : Type 0} → (P → Places) → Plan P → Shape
shape_of seen plan = record { morsel = plan.morsel; words = plan.words; places = map seen plan.places; pipes = plan.pipes }

-- what stands where there is no such pipe or placement
abbrev pub no_pipe : Pipe
no_pipe = record { items = 0; reads = []; writes = [] }

abbrev pub no_places : Places
no_places = record { kind = Exact; numbers = []; least = 0 }

-- pipe p, placement k and the words of region r
abbrev pub pipe_at : List Pipe → ℕ → Pipe
pipe_at pipes p = slice_index_or pipes p no_pipe

module _ (s : Shape) where
  abbrev pub places_at : ℕ → Places
  places_at k = slice_index_or s.places k no_places

  abbrev pub words_of : ℕ → ℕ
  words_of r = slice_index s.words r

  -- the place of an item in the port's region
  abbrev pub place_at : Port → ℕ → Place
  place_at a item = place_of (places_at a.places) item (words_of a.region)

  -- the port's region and placement are there, the placement has the pipe's items, and the region has words enough for them
  abbrev pub serves : ℕ → Port → Bool
  serves items a =
      nat_lt a.region (length s.words) && nat_lt a.places (length s.places) && (length (places_at a.places).numbers == items)
      && nat_le (places_at a.places).least (words_of a.region)

-- an item has a place in a port's region
pub record HasPlace (s : Shape) (item : ℕ) (a : Port) : Type 0 where
  pub region : a.region < length s.words
  pub places : a.places < length s.places
  pub inside : item < length (places_at s a.places).numbers
  pub least : (places_at s a.places).least ≤ words_of s a.region
  pub some : 1 ≤ words_of s a.region

-- each of so many items has a place in a port's region, or in the region of each of these ports
abbrev pub HavePlaceAt : Shape → ℕ → Port → Type 0
HavePlaceAt s items a = (item : ℕ) → item < items → HasPlace s item a

abbrev pub HavePlaces : Shape → ℕ → List Port → Type 0
HavePlaces s items ports = (item : ℕ) → item < items → All (HasPlace s item) ports

-- how many ports of these pipes write region r
abbrev pub writers_of : List Pipe → ℕ → ℕ
writers_of pipes r = sum_by (λ x. length (filter (λ a. a.region == r) x.writes)) pipes

-- some port of these pipes writes region r
abbrev pub is_written : List Pipe → ℕ → Bool
is_written pipes r = list_any (λ x. list_any (λ a. a.region == r) x.writes) pipes

-- what pipe p reads is written by pipes before it
abbrev pub are_written : List Pipe → ℕ → Bool
are_written pipes p = list_all (λ a. is_written (take p pipes) a.region) (pipe_at pipes p).reads

-- each of these ports serves the items of pipe p
abbrev pub all_serve : Shape → ℕ → List Port → Bool
all_serve s p ports = list_all (serves s (pipe_at s.pipes p).items) ports

-- region r has a word, and one port of one pipe writes it
pub record IsRegion (s : Shape) (r : ℕ) : Type 0 where
  pub some : 1 ≤ words_of s r
  pub once : writers_of s.pipes r ≡ 1

-- pipe p writes by fewer than 2^32 ports, each port by which it reads or writes serves its items, and pipes before it write what it reads,
-- so that a region is read by later pipes alone
pub record IsPipe (s : Shape) (p : ℕ) : Type 0 where
  pub ports : length (pipe_at s.pipes p).writes < 2 ^ 32
  pub reads : IsTrue (all_serve s p (pipe_at s.pipes p).reads)
  pub writes : IsTrue (all_serve s p (pipe_at s.pipes p).writes)
  pub later : IsTrue (are_written s.pipes p)

-- each region, and each pipe
abbrev pub AreRegions : Shape → Type 0
AreRegions s = (r : ℕ) → r < length s.words → IsRegion s r

abbrev pub ArePipes : Shape → Type 0
ArePipes s = (p : ℕ) → p < length s.pipes → IsPipe s p

-- a valid plan
pub record IsValid (s : Shape) : Type 0 where
  pub some : 1 ≤ length s.pipes
  pub few : length s.pipes ≤ 128
  pub morsel : IsMorsel s.morsel
  pub regions : AreRegions s
  pub pipes : ArePipes s
