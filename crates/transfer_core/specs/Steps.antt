-- Steps of actors, and the states that they lead to.
-- Words of this crate's own contracts.
use Rattle.std.specs.Prelude.{◌≡◌, ℕ, ◌+◌, ◌/◌, ◌<◌, ◌≤◌, ◌==◌, nat_lt, if◌then◌else◌, true, List, [], ◌∷◌, length, map}
use Rattle.std.specs.Prelude.{replicate, slice_index, slice_index_or, slice_set}
use Rattle.transfer_core.specs.declared.steps.Step.{Step}
use Rattle.transfer_core.specs.declared.steps.Step.TheVariants as step
use Rattle.transfer_core.specs.Actors.{Actor, HasSeen, Holds, HoldsNone, actor, idle, is_listed, nothing, with_finished}
use Rattle.transfer_core.specs.Actors.{with_morsel, with_put, with_seen}
use Rattle.transfer_core.specs.Job.{IsPassing, IsWord, Job, job_of}
use Rattle.transfer_core.specs.Plans.{Shape}
use Rattle.transfer_core.specs.Sealed.{sealed}
use Rattle.transfer_core.specs.Sound.{HasSeenReads, IsSound}
use Rattle.transfer_core.specs.Words.{AreSized, put_in, regions_of}

-- a state: for each pipe the number of its morsels that were drawn, `next`, and of those that are finished, `done`; the words of each region;
-- and the actors
pub record Core : Type 0 where
  pub next : List ℕ
  pub done : List ℕ
  pub words : List (List ℕ)
  pub actors : List Actor

abbrev pub core : List ℕ → List ℕ → List (List ℕ) → List Actor → Core
core next done words actors = record { next = next; done = done; words = words; actors = actors }

-- what stands where there is no such actor
abbrev pub no_actor : Actor
no_actor = actor nothing nothing nothing []

abbrev pub actor_at : List Actor → ℕ → Actor
actor_at actors id = slice_index_or actors id no_actor

-- the actors, of whom one changes
abbrev pub with_actor : List Actor → ℕ → (Actor → Actor) → List Actor
with_actor actors id change = slice_set actors id (change (actor_at actors id))

-- nothing was drawn, finished or put, and the actors know nothing
abbrev pub first_state : Shape → ℕ → Core
first_state s actors = core (replicate (length s.pipes) 0) (replicate (length s.pipes) 0)
    (map (λ n. replicate n 0) s.words) (replicate actors (idle (length s.pipes)))

-- all puts for morsel m of pipe p are listed: of each passing item, into the region of each port
abbrev pub ListsAllPuts : Job → ℕ → ℕ → Actor → Type 0
ListsAllPuts j p m a = (item port : ℕ) → IsPassing j p item port → item / j.size ≡ m
    → is_listed item port a.puts ≡ true

module _ (s : Shape) where
  -- a step is allowed: who draws holds nothing, and has seen full each pipe that is read from; who puts holds the item's morsel, and the item
  -- passes; who finishes has put all that passes; who reads a word has seen full the pipe that writes it; and anyone may see
  abbrev pub IsAllowed : Core → Step → Type 0
  IsAllowed c (step.Draw id p) = let a = actor_at c.actors id in
      (id < length c.actors) × (p < length s.pipes) × HoldsNone a × HasSeenReads (job_of s) p a
  IsAllowed c (step.Put id p item port) = let a = actor_at c.actors id in
      (id < length c.actors) × Holds a p (item / s.morsel) × IsPassing (job_of s) p item port
  IsAllowed c (step.Finish id p) = let a = actor_at c.actors id in
      (id < length c.actors) × ((m : ℕ) × Holds a p m × ListsAllPuts (job_of s) p m a)
  IsAllowed c (step.See id p) = (id < length c.actors) × (p < length s.pipes)
  IsAllowed c (step.Look id r w) = let a = actor_at c.actors id in
      (id < length c.actors) × IsWord (job_of s) r w × HasSeen a ((job_of s).owner r)

  -- the state after a step: a draw gives the next morsel, if one is left; a put adds the item's mask; a finished morsel is counted; a pipe
  -- is seen full once all its morsels are finished; and to read a word changes nothing
  abbrev pub after : Core → Step → Core
  after c (step.Draw id p) =
      let n = slice_index c.next p in
      if nat_lt n ((job_of s).morsels p)
      then core (slice_set c.next p (n + 1)) c.done c.words (with_actor c.actors id (with_morsel p n))
      else c
  after c (step.Put id p item port) =
      let j = job_of s in
      core c.next c.done (put_in c.words (j.region p port) (j.word p item port) (j.mask p item port))
      (with_actor c.actors id (with_put item port))
  after c (step.Finish id p) =
      core c.next (slice_set c.done p (slice_index c.done p + 1)) c.words
      (with_actor c.actors id (λ a. with_finished a.held a))
  after c (step.See id p) =
      if slice_index c.done p == (job_of s).morsels p
      then core c.next c.done c.words (with_actor c.actors id (with_seen p))
      else c
  after c (step.Look id r w) = c

  -- a list of steps, each of them allowed, leads from the one state to the other
  abbrev pub Leads : Core → List Step → Core → Type 0
  Leads c [] d = c ≡ d
  Leads c (x ∷ steps) d = IsAllowed c x × Leads (after c x) steps d

  -- a state of this plan is sound
  pub record IsSoundCore (c : Core) : Type 0 where
    pub sound : IsSound (job_of s) (slice_index c.next) (slice_index c.done) (regions_of c.words) c.actors
    -- no more morsels are drawn than the pipe has
    pub most : (p : ℕ) → p < length s.pipes → slice_index c.next p ≤ (job_of s).morsels p
    pub nexts : length c.next ≡ length s.pipes
    pub dones : length c.done ≡ length s.pipes
    pub sized : AreSized s c.words

  -- ---- what the laws say
  -- each list of allowed steps from the first state, of however many actors, leads to a sound one
  abbrev pub EveryListIsSound : Type 0
  EveryListIsSound = (actors : ℕ) (steps : List Step) (c : Core)
      → Leads (first_state s actors) steps c → IsSoundCore c

  -- each word that an actor of a sound state may read is the sealed word
  abbrev pub ReadsSealedWords : Type 0
  ReadsSealedWords = (c : Core) → IsSoundCore c → (id r w : ℕ) → IsAllowed c (step.Look id r w)
      → regions_of c.words r w ≡ sealed s r w
