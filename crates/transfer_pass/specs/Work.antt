-- The items of a morsel that a hand holds.
-- Words of this crate's own contracts.
use Rattle.std.specs.Prelude.{◌≡◌, ℕ, ◌+◌, ◌-◌, ◌/◌, ◌<◌, ◌≤◌, List, Bool, filter, true}
use Rattle.std.specs.List.{range_with_len}
use Rattle.transfer_core.specs.declared.plan.Port.{Port}
use Rattle.transfer_core.specs.Actors.{Actor, HasSeen, Holds, actor, is_listed}
use Rattle.transfer_core.specs.Job.{IsPassing, Job}
use Rattle.transfer_core.specs.Plans.{Shape, pipe_at}
use Rattle.transfer_core.specs.Sealed.{answers, passes, sealed}
use Rattle.filter_board.specs.Views.{HandView, with_actor}

-- an item of pipe p lies in the morsel that an actor holds
pub record IsHeld (j : Job) (p : ℕ) (a : Actor) (item : ℕ) : Type 0 where
  pub pipe : p < j.pipes
  pub inside : item < j.items p
  pub holds : Holds a p (item / j.size)

-- the items from one number on, to the one before the other, are a chunk, and something holds of each item of a chunk
abbrev pub IsChunk : ℕ → ℕ → Type 0
IsChunk from to = (from ≤ to) × (to ≤ from + 64)

abbrev pub EachIn : ℕ → ℕ → (ℕ → Type 0) → Type 0
EachIn from to P = (item : ℕ) → from ≤ item → item < to → P item

-- these are the ports by which pipe p reads
abbrev pub AreReads : Shape → ℕ → List Port → Type 0
AreReads s p ports = ports ≡ (pipe_at s.pipes p).reads

-- an actor has seen full the pipe that writes what the port reads
abbrev pub HasSeenWriter : Job → Actor → Port → Type 0
HasSeenWriter j a port = HasSeen a (j.owner port.region)

-- what the sealed regions answer for an item
abbrev pub answers_sealed : Shape → ℕ → Port → Bool
answers_sealed s item port = answers s (sealed s) item port

abbrev pub passes_sealed : Shape → ℕ → List Port → Bool
passes_sealed s item reads = passes s (sealed s) item reads

-- the items of a chunk that pass, by the ports by which their pipe reads
abbrev pub passing_items : Shape → List Port → ℕ → ℕ → List ℕ
passing_items s reads from to = filter (λ i. passes_sealed s i reads) (range_with_len from (to - from))

-- an item of pipe p doesn't pass, or its puts by all ports are among these
abbrev pub ListsPuts : Job → ℕ → List (ℕ × ℕ) → ℕ → Type 0
ListsPuts j p puts item = (q : ℕ) → IsPassing j p item q → is_listed item q puts ≡ true

-- each put that was listed before is listed after
abbrev pub KeepsListed : List (ℕ × ℕ) → List (ℕ × ℕ) → Type 0
KeepsListed before after = (i q : ℕ) → is_listed i q before ≡ true → is_listed i q after ≡ true

-- the hand, with these puts listed
abbrev pub with_puts : List (ℕ × ℕ) → HandView → HandView
with_puts puts hand = with_actor (λ a. actor a.held puts a.finished a.seen) hand
