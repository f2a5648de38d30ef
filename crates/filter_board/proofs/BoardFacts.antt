-- What a board's invariant says of it as contracts see it.
use Rattle.std.proofs.Common.{◌≡◌, ℕ, ◌<◌, ◌^◌, List, [], ◌∷◌, refl, ap, subst}
use Rattle.atomic_table.specs.Seated.{TableId}
use Rattle.rpt_base.specs.Limits.{AreWorkers}
use Rattle.key_codes.specs.Placement.{IsLawful, Places}
use Rattle.transfer_core.specs.Job.{IsRight, job_of}
use Rattle.transfer_core.specs.Plans.{IsValid, shape_of}
use Rattle.transfer_core.specs.declared.plan.Plan.{Plan}
use Rattle.transfer_core.proofs.Regions.{right}
use Rattle.transfer_core.proofs.PlainFacts.{lawful_list}
use Rattle.filter_board.specs.declared.setup.Setup.{Setup}
use Rattle.filter_board.specs.Laid.{IsLaidOut}
use Rattle.filter_board.specs.Layout.{AreRooms, AreStarts, word_count}
use Rattle.filter_board.specs.Shares.{parts_of}
use Rattle.filter_board.specs.Views.{BoardView, job_in, shape_in}

-- the job of a valid plan is right
pub right_plan : {P : Type 0} (seen : P → Places) → ((x : P) → IsLawful (seen x)) → (plan : Plan P) → IsValid (shape_of seen plan) → IsRight (job_of (shape_of seen plan))
right_plan seen law plan valid = right (shape_of seen plan) valid (λ k d l. lawful_list seen law plan.places k d l)

pub record Facts {P : Type 0} (seen : P → Places) (key : Setup P) (of : TableId) (starts : List ℕ) (rooms : List (List ℕ)) (b : BoardView P) : Type 0 where
  pub of_is : of ≡ b.of
  -- the key of the table speaks of the same plan, and of as many parts
  pub same : shape_of seen key.plan ≡ shape_in seen b
  pub parts : parts_of key.workers ≡ parts_of b.workers
  pub valid : IsValid (shape_in seen b)
  pub right : IsRight (job_in seen b)
  pub words : of.words ≡ word_count (shape_in seen b)
  pub addressed : of.words < 2 ^ 64
  pub workers : AreWorkers b.workers
  pub starts_are : AreStarts b.plan.words starts
  pub rooms_are : AreRooms b.plan.words rooms

pub facts : {P : Type 0} (seen : P → Places) → ((x : P) → IsLawful (seen x)) → (key setup : Setup P) (of : TableId) (starts : List ℕ) (rooms : List (List ℕ)) (b : BoardView P)
    → IsLaidOut seen key setup of starts rooms → record { of = of; plan = setup.plan; workers = setup.workers } ≡ b → Facts seen key of starts rooms b
facts seen law key setup of starts rooms b l is = subst (Facts seen key of starts rooms) is record {
  of_is = refl;
  same = ap (λ (s : Setup _). shape_of seen s.plan) l.keyed;
  parts = ap (λ (s : Setup _). parts_of s.workers) l.keyed;
  valid = l.valid;
  right = right_plan seen law setup.plan l.valid;
  words = l.words;
  addressed = l.addressed;
  workers = l.workers;
  starts_are = l.starts_are;
  rooms_are = l.rooms_are;
}
