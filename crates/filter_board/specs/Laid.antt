-- How a board lies in memory.
-- Words of this crate's own contracts.
use Rattle.std.specs.Prelude.{◌≡◌, ℕ, ◌<◌, ◌^◌, List}
use Rattle.atomic_table.specs.Seated.{TableId}
use Rattle.rpt_base.specs.Limits.{AreWorkers}
use Rattle.key_codes.specs.Placement.{Places}
use Rattle.transfer_core.specs.Plans.{IsValid, shape_of}
use Rattle.filter_board.specs.Layout.{AreRooms, AreStarts, word_count}
use Rattle.filter_board.specs.Views.{BoardView}
use Rattle.filter_board.specs.declared.setup.Setup.{Setup}

-- a board as contracts see it
abbrev pub board_of : {P : Type 0} → TableId → Setup P → BoardView P
board_of of setup = record { of = of; plan = setup.plan; workers = setup.workers }

-- a board of this setup, by the key of its table, the table, where its regions start, and the rooms for them
pub record IsLaidOut
    {P : Type 0} (seen : P → Places) (key setup : Setup P) (of : TableId) (starts : List ℕ) (rooms : List (List ℕ))
    : Type 0 where
  pub keyed : key ≡ setup
  pub valid : IsValid (shape_of seen setup.plan)
  pub workers : AreWorkers setup.workers
  pub words : of.words ≡ word_count (shape_of seen setup.plan)
  pub addressed : of.words < 2 ^ 64
  pub slots : of.slots ≡ 0
  pub starts_are : AreStarts setup.plan.words starts
  pub rooms_are : AreRooms setup.plan.words rooms
