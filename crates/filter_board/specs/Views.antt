-- A board and a hand as contracts see them.
-- Words of this crate's own contracts.
use Rattle.std.specs.Prelude.{◌≡◌, ℕ, ◌<◌, ◌==◌, All, List, [], Bool, bit_and, slice_set, true}
pub use Rattle.atomic_table.specs.Seated.{TableId}
use Rattle.rpt_base.specs.Limits.{AreWorkers}
use Rattle.atomic_table.specs.Table.{Me}
use Rattle.key_codes.specs.Placement.{Places}
use Rattle.key_codes.specs.declared.places.Place.{Place}
use Rattle.transfer_core.specs.declared.plan.Plan.{Plan}
use Rattle.transfer_core.specs.Actors.{Actor, Holds, HoldsNone}
use Rattle.transfer_core.specs.Job.{Job, job_of}
use Rattle.transfer_core.specs.Plans.{IsValid, Shape, shape_of}
use Rattle.transfer_core.specs.Sealed.{sealed}
use Rattle.transfer_core.specs.Steps.{ListsAllPuts}
use Rattle.filter_board.specs.Layout.{index_of}
use Rattle.filter_board.specs.Runs.{with_masks}
use Rattle.filter_board.specs.Shares.{IsTold, fresh, parts_of}
use Rattle.filter_board.specs.declared.share.Share.{Share}

-- which board it is, the plan, and for how many workers it was made
pub record BoardView (P : Type 0) : Type 0 where
  pub of : TableId
  pub plan : Plan P
  pub workers : ℕ

-- of which board it is; what it knows, as an actor of the core over steps; for each pipe a mark, whether it was told that no morsel
-- is left; its parts; and the number that it carries
pub record HandView : Type 0 where
  pub of : TableId
  pub actor : Actor
  pub told : List Bool
  pub parts : ℕ
  pub worker : ℕ

abbrev pub hand_of : TableId → Share → ℕ → HandView
hand_of of h worker = record { of = of; actor = h.actor; told = h.told; parts = h.parts; worker = worker }

-- a hand of a board with the parts of one worker, which has made no step
abbrev pub first_hand : TableId → HandView
first_hand of = hand_of of (fresh (parts_of 1)) 0

-- a hand whose actor changes, and a hand that was told that no morsel of pipe p is left
abbrev pub with_actor : (Actor → Actor) → HandView → HandView
with_actor change hand = record hand { actor = change hand.actor }

abbrev pub with_told : ℕ → HandView → HandView
with_told p hand = record hand { told = slice_set hand.told p true }

-- what a hand keeps of its seat: it holds no slot of the table, the hand's marks are those of its share, and it has a part
pub record IsHand (seen told : List Bool) (me : Me (Unit {0}) Share) : Type 0 where
  pub slots : me.1 ≡ []
  pub seen_are : seen ≡ me.0.actor.seen
  pub told_are : told ≡ me.0.told
  pub part : 0 < me.0.parts

module _ {P : Type 0} (seen : P → Places) (b : BoardView P) where
  abbrev pub shape_in : Shape
  shape_in = shape_of seen b.plan

  abbrev pub job_in : Job
  job_in = job_of (shape_of seen b.plan)

  -- where the word of item i of pipe p in the region of port q stands among the words of the board
  abbrev pub index_of_item : ℕ → ℕ → ℕ → ℕ
  index_of_item p i q = index_of shape_in (job_in.region p q) (job_in.word p i q)

  -- a run: the places of these items, by port q of pipe p, are in the word that stands at `at`, and `mask` has all their masks
  pub record IsRun (p q : ℕ) (items : List ℕ) (at mask : ℕ) : Type 0 where
    pub places : All (λ i. at ≡ index_of_item p i q) items
    pub masks : mask ≡ with_masks (λ i. job_in.mask p i q) 0 items

  -- a board is made for a valid plan, and for 1 to 32 workers
  pub record IsMade : Type 0 where
    pub valid : IsValid (shape_of seen b.plan)
    pub workers : AreWorkers b.workers

-- a hand has all parts of a board, holds nothing, and was told that no morsel of pipe p is left: it has finished the last one
pub record IsAloneAtEnd {P : Type 0} (b : BoardView P) (p : ℕ) (hand : HandView) : Type 0 where
  pub all : hand.parts ≡ parts_of b.workers
  pub free : HoldsNone hand.actor
  pub end : IsTold hand.told p

-- an actor may finish a morsel of pipe p: it holds one, and all puts for it are listed
abbrev pub MayFinish : Job → ℕ → Actor → Type 0
MayFinish j p a = (m : ℕ) × Holds a p m × ListsAllPuts j p m a

-- sealed region r answers yes for a place: it has the bits of the place
abbrev pub answers_place : Shape → ℕ → Place → Bool
answers_place s r place = bit_and (sealed s r place.word) place.mask == place.mask
