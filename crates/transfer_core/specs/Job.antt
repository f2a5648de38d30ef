-- What the rule over steps reads of a plan.
use Rattle.std.specs.Prelude.{◌≡◌, ℕ, ◌/◌, ◌<◌, ◌==◌, List, [], ◌∷◌, Bool, true, cond, length, slice_index_or, suc}
use Rattle.std.specs.Int.{div_ceil}
use Rattle.std.specs.List.{list_any}
use Rattle.transfer_core.specs.declared.plan.Pipe.{Pipe}
use Rattle.transfer_core.specs.declared.plan.Port.{Port}
use Rattle.transfer_core.specs.Counts.{Lies}
use Rattle.transfer_core.specs.Plans.{Shape, pipe_at, place_at, words_of}
use Rattle.transfer_core.specs.Sealed.{passes, sealed}

-- pipes, regions, items, ports and words by their numbers
pub record Job : Type 0 where
  pub pipes : ℕ
  -- the items of a morsel
  pub size : ℕ
  -- the items of a pipe, its morsels, and how many ports it writes
  pub items : ℕ → ℕ
  pub morsels : ℕ → ℕ
  pub ports : ℕ → ℕ
  -- the regions, the words of each, the pipe that writes it, and its sealed words
  pub regions : ℕ
  pub words : ℕ → ℕ
  pub owner : ℕ → ℕ
  pub sealed : ℕ → ℕ → ℕ
  -- the region of a pipe's port, and the word and the mask of an item there
  pub region : ℕ → ℕ → ℕ
  pub word : ℕ → ℕ → ℕ → ℕ
  pub mask : ℕ → ℕ → ℕ → ℕ
  -- whether an item passes a pipe
  pub passes : ℕ → ℕ → Bool
  -- whether the first pipe reads a region that the second writes
  pub reads : ℕ → ℕ → Bool

module _ (j : Job) where
  -- item i of pipe p passes, and q is one of the ports by which the pipe writes
  abbrev pub IsPassing : ℕ → ℕ → ℕ → Type 0
  IsPassing p i q = (p < j.pipes) × (i < j.items p) × (q < j.ports p) × (j.passes p i ≡ true)

  -- word w of region r
  abbrev pub IsWord : ℕ → ℕ → Type 0
  IsWord r w = (r < j.regions) × (w < j.words r)

  -- the words contain the mask of item i in the region of pipe p's port q
  abbrev pub HaveMask : (ℕ → ℕ → ℕ) → ℕ → ℕ → ℕ → Type 0
  HaveMask words p i q = Lies (j.mask p i q) (words (j.region p q) (j.word p i q))

  -- an item's place is a word of a region that its pipe writes, and the sealed words contain its mask
  pub record IsPlaced (p i q : ℕ) : Type 0 where
    pub inside : IsWord (j.region p q) (j.word p i q)
    pub owned : j.owner (j.region p q) ≡ p
    pub sealed : HaveMask j.sealed p i q

  -- a number contains the masks of the passing items whose place is word w of region r
  abbrev pub HasPassing : ℕ → ℕ → ℕ → Type 0
  HasPassing r w z = (i q : ℕ) → IsPassing (j.owner r) i q → j.region (j.owner r) q ≡ r
      → j.word (j.owner r) i q ≡ w → Lies (j.mask (j.owner r) i q) z

  -- what a valid plan gives
  pub record IsRight : Type 0 where
    -- items lie in morsels
    pub cut : (p i : ℕ) → p < j.pipes → i < j.items p → i / j.size < j.morsels p
    pub placed : (p i q : ℕ) → IsPassing p i q → IsPlaced p i q
    pub owned : (r : ℕ) → r < j.regions → j.owner r < j.pipes
    -- a sealed word is the least that contains the masks of the passing items
    pub least : (r w z : ℕ) → IsWord r w → HasPassing r w z → Lies (j.sealed r w) z

-- what stands where there is no such port
abbrev pub no_port : Port
no_port = record { region = 0; places = 0 }

abbrev pub port_at : List Port → ℕ → Port
port_at ports q = slice_index_or ports q no_port

-- one of these ports writes region r
abbrev pub writes_region : ℕ → List Port → Bool
writes_region r ports = list_any (λ a. a.region == r) ports

-- the number of the pipe that writes region r
abbrev pub writer : List Pipe → ℕ → ℕ
writer [] r = 0
writer (x ∷ pipes) r = cond (writes_region r x.writes) 0 (suc (writer pipes r))

-- the job of a plan
abbrev pub job_of : Shape → Job
job_of s = record {
  pipes = length s.pipes;
  size = s.morsel;
  items = λ p. (pipe_at s.pipes p).items;
  morsels = λ p. div_ceil (pipe_at s.pipes p).items s.morsel;
  ports = λ p. length (pipe_at s.pipes p).writes;
  regions = length s.words;
  words = words_of s;
  owner = writer s.pipes;
  sealed = sealed s;
  region = λ p q. (port_at (pipe_at s.pipes p).writes q).region;
  word = λ p i q. (place_at s (port_at (pipe_at s.pipes p).writes q) i).word;
  mask = λ p i q. (place_at s (port_at (pipe_at s.pipes p).writes q) i).mask;
  passes = λ p i. passes s (sealed s) i (pipe_at s.pipes p).reads;
  reads = λ p o. list_any (λ a. writer s.pipes a.region == o) (pipe_at s.pipes p).reads;
}
