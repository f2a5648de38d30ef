-- States in code, and the room that they keep.
-- Words of this crate's own contracts.
use Rattle.std.specs.Prelude.{◌≡◌, ◌*◌, ◌/◌, ◌<◌, ◌≤◌, ℕ, Bool, false, true, List, [], ◌∷◌, Option, Some, None, length, map}
use Rattle.std.specs.Prelude.{replicate, sum_by}
use Rattle.std.specs.Int.{div_ceil}
use Rattle.std.specs.List.{list_all}
use Rattle.std.specs.Vec.{vec_capacity}
use mathlib.Core.Option.{some}
use lib.ListN.{get_elem?}
use Rattle.transfer_core.specs.declared.known.Known.{Known}
use Rattle.transfer_core.specs.declared.plan.Pipe.{Pipe}
use Rattle.transfer_core.specs.declared.plan.Port.{Port}
use Rattle.transfer_core.specs.declared.state.State.{State}
use Rattle.transfer_core.specs.declared.steps.Step.{Step}
use Rattle.transfer_core.specs.Actors.{Actor, actor, idle, is_listed, is_marked, nothing}
use Rattle.transfer_core.specs.Job.{writer}
use Rattle.transfer_core.specs.Plans.{Shape, pipe_at}
use Rattle.transfer_core.specs.Sealed.{passes}
use Rattle.transfer_core.specs.Steps.{Core, IsAllowed, IsSoundCore, after, core, first_state}
use Rattle.transfer_core.specs.Words.{regions_of}

-- ---- what the code's values stand for
-- the morsel that is held, with its pipe, if any is
abbrev pub held_of : Option (ℕ × ℕ) → List (ℕ × ℕ)
held_of None = nothing
held_of (Some x) = x ∷ []

abbrev pub actor_of : Known → Actor
actor_of k = actor (held_of k.held) k.puts.items k.finished.items k.seen.items

abbrev pub core_of : State → Core
core_of state = core state.next.items state.done.items state.words (map actor_of state.actors.items)

-- ---- which steps are allowed
-- the pipes that write what these ports read are marked
abbrev pub are_writers_marked : List Bool → List Pipe → List Port → Bool
are_writers_marked marks pipes reads = list_all (λ a. is_marked marks (writer pipes a.region)) reads

-- an item doesn't pass, or its puts into the regions of all ports are listed
abbrev pub IsPut : Shape → List (List ℕ) → Pipe → List (ℕ × ℕ) → ℕ → Type 0
IsPut s words x puts item = passes s (regions_of words) item x.reads ≡ true
    → (port : ℕ) → port < length x.writes → is_listed item port puts ≡ true

-- so it is with each item of morsel m
abbrev pub ArePut : Shape → List (List ℕ) → Pipe → List (ℕ × ℕ) → ℕ → Type 0
ArePut s words x puts m = (item : ℕ) → item < x.items → item / s.morsel ≡ m → IsPut s words x puts item

-- ---- room
-- how many morsels the pipes of a plan have together
abbrev pub all_morsels : Shape → ℕ
all_morsels s = sum_by (λ x. div_ceil x.items s.morsel) s.pipes

-- no morsel of these pipes has more puts than so many
abbrev pub AreMostPuts : ℕ → List Pipe → ℕ → Type 0
AreMostPuts morsel pipes most = (p : ℕ) → p < length pipes → morsel * length (pipe_at pipes p).writes ≤ most

-- no pair stands twice
abbrev pub AreDifferent : List (ℕ × ℕ) → Type 0
AreDifferent [] = Unit {0}
AreDifferent (x ∷ xs) = (is_listed x.0 x.1 xs ≡ false) × AreDifferent xs

-- an actor has room for the puts of any morsel, for all morsels of all pipes, and for a mark of each pipe
pub record HasRoom (s : Shape) (k : Known) : Type 0 where
  pub puts : AreMostPuts s.morsel s.pipes (vec_capacity k.puts)
  pub finished : all_morsels s ≤ vec_capacity k.finished
  pub marks : length k.seen.items ≡ length s.pipes
  -- it uses no more: no put is listed twice, and what is finished is of the plan's pipes
  pub different : AreDifferent k.puts.items
  pub pipes : (i : ℕ) (x : ℕ × ℕ) → get_elem? k.finished.items i ≡ some x → x.0 < length s.pipes

-- a put, if it isn't listed yet, finds room
abbrev pub HasRoomForPut : ℕ → ℕ → Known → Type 0
HasRoomForPut item port k = is_listed item port k.puts.items ≡ false → length k.puts.items < vec_capacity k.puts

abbrev pub HasRoomEach : Shape → List Known → Type 0
HasRoomEach s actors = (id : ℕ) (k : Known) → get_elem? actors id ≡ some k → HasRoom s k

abbrev pub HaveRoom : Shape → State → Type 0
HaveRoom s state = HasRoomEach s state.actors.items

-- a state of a plan: one that was started with it, and has taken allowed steps
pub record IsStateOf (s : Shape) (state : State) : Type 0 where
  pub sound : IsSoundCore s (core_of state)
  pub room : HaveRoom s state

-- a step may be taken of a state, and was taken of it
abbrev pub MayTake : Shape → State → Step → Type 0
MayTake s state x = IsAllowed s (core_of state) x

abbrev pub HasTaken : Shape → State → Step → State → Type 0
HasTaken s before x state = core_of state ≡ after s (core_of before) x

-- actors of a first state, and a first state
abbrev pub AreIdle : ℕ → ℕ → List Known → Type 0
AreIdle pipes count actors = map actor_of actors ≡ replicate count (idle pipes)

abbrev pub IsFirst : Shape → ℕ → State → Type 0
IsFirst s actors state = core_of state ≡ first_state s actors
