-- Which numbers are put into a region, and which it answers.
-- Words of this crate's own contracts.
use Rattle.std.specs.Prelude.{◌≡◌, ◌↔◌, ℕ, ◌<◌, length, slice_index, true}
use Rattle.key_codes.specs.Placement.{Kind}
use Rattle.key_codes.specs.Placement.Kind.{Exact}
use Rattle.transfer_core.specs.declared.plan.Port.{Port}
use Rattle.transfer_core.specs.Job.{port_at}
use Rattle.transfer_core.specs.Plans.{Shape, pipe_at, places_at}
use Rattle.transfer_core.specs.Sealed.{answers, passes, sealed}

module _ (s : Shape) where
  -- the number of an item in the port's placement, and the placement's kind
  abbrev pub number_at : Port → ℕ → ℕ
  number_at a item = slice_index (places_at s a.places).numbers item

  abbrev pub kind_at : Port → Kind
  kind_at a = (places_at s a.places).kind

  -- port q of those by which pipe p writes
  abbrev pub write_at : ℕ → ℕ → Port
  write_at p q = port_at (pipe_at s.pipes p).writes q

  -- pipe p writes, by its port q, the region that the other port reads
  pub record Feeds (p q : ℕ) (b : Port) : Type 0 where
    pub pipe : p < length s.pipes
    pub port : q < length (pipe_at s.pipes p).writes
    pub region : b.region ≡ (write_at p q).region

  -- an item with this number passes pipe p, which puts it into the region of its port q
  abbrev pub PutsNumber : ℕ → ℕ → ℕ → Type 0
  PutsNumber p q n = (item : ℕ) × (item < (pipe_at s.pipes p).items)
      × (passes s (sealed s) item (pipe_at s.pipes p).reads ≡ true) × (number_at (write_at p q) item ≡ n)

  -- ---- what the law says
  -- the sealed region of a port answers yes for an item whose number is put into it
  abbrev pub AnswersWhatIsPut : Type 0
  AnswersWhatIsPut = (p q : ℕ) (b : Port) (item : ℕ) → Feeds p q b → kind_at (write_at p q) ≡ kind_at b
      → PutsNumber p q (number_at b item) → answers s (sealed s) item b ≡ true

  -- with exact placements it answers yes just for these
  abbrev pub AnswersExactly : Type 0
  AnswersExactly = (p q : ℕ) (b : Port) (item : ℕ) → Feeds p q b → kind_at (write_at p q) ≡ Exact → kind_at b ≡ Exact
      → (answers s (sealed s) item b ≡ true) ↔ PutsNumber p q (number_at b item)
