-- Sound states.
-- Words of this crate's own contracts.
use Rattle.std.specs.Prelude.{◌≡◌, ℕ, ◌/◌, ◌<◌, List, ◌++◌, length, min, true}
use mathlib.Core.Option.{some}
use lib.ListN.{get_elem?}
use Rattle.transfer_core.specs.Actors.{Actor, HasFinished, HasSeen, Holds, ListsPut, morsels_of}
use Rattle.transfer_core.specs.Counts.{Lies, one_if_below, times, total}
use Rattle.transfer_core.specs.Job.{HaveMask, IsPassing, IsWord, Job}

-- the morsels of a pipe that stand at an actor: the one that it holds, and those that it has finished
abbrev pub morsels_at : ℕ → Actor → List ℕ
morsels_at p a = morsels_of p a.held ++ morsels_of p a.finished

-- how often morsel m of pipe p stands, over all actors
abbrev pub times_standing : ℕ → ℕ → List Actor → ℕ
times_standing p m actors = total (λ a. times m (morsels_at p a)) actors

-- how many morsels of pipe p are finished, over all actors
abbrev pub finished_count : ℕ → List Actor → ℕ
finished_count p actors = total (λ a. length (morsels_of p a.finished)) actors

-- an actor has seen full each pipe that pipe p reads from
abbrev pub HasSeenReads : Job → ℕ → Actor → Type 0
HasSeenReads j p a = (o : ℕ) → j.reads p o ≡ true → HasSeen a o

-- an actor is sound, by the number of finished morsels of each pipe and the words of regions
pub record IsSoundActor (j : Job) (done : ℕ → ℕ) (word : ℕ → ℕ → ℕ) (a : Actor) : Type 0 where
  -- the words contain the masks of the passing items of each morsel that it has finished
  pub kept : (p i q : ℕ) → IsPassing j p i q → HasFinished a p (i / j.size) → HaveMask j word p i q
  -- its listed puts are of passing items of the morsel that it holds, and the words contain their masks
  pub listed : (p m : ℕ) → Holds a p m → (k i q : ℕ) → ListsPut a k i q
      → IsPassing j p i q × (i / j.size ≡ m) × HaveMask j word p i q
  -- who holds a morsel of a pipe has seen full each pipe that this one reads from
  pub ready : (p m : ℕ) → Holds a p m → (p < j.pipes) × HasSeenReads j p a
  -- what it has finished is of the plan's pipes
  pub finished : (p m : ℕ) → HasFinished a p m → p < j.pipes
  -- of a pipe that it has seen full all morsels are finished
  pub full : (p : ℕ) → HasSeen a p → (p < j.pipes) × (done p ≡ j.morsels p)

-- a state is sound, by the numbers of drawn and of finished morsels of each pipe, the words of regions, and the actors. `next` may go past
-- the pipe's morsels where draws are counted that find none left
pub record IsSound (j : Job) (next done : ℕ → ℕ) (word : ℕ → ℕ → ℕ) (actors : List Actor) : Type 0 where
  -- each morsel that was drawn stands exactly once, held by one actor or finished by one, and no other stands anywhere
  pub once : (p m : ℕ) → p < j.pipes
      → times_standing p m actors ≡ one_if_below m (min (next p) (j.morsels p))
  -- `done` counts the finished morsels of all actors
  pub counted : (p : ℕ) → p < j.pipes → done p ≡ finished_count p actors
  -- each word lies in the sealed one
  pub inside : (r w : ℕ) → IsWord j r w → Lies (word r w) (j.sealed r w)
  pub each : (id : ℕ) (a : Actor) → get_elem? actors id ≡ some a → IsSoundActor j done word a
