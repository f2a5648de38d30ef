-- Sound boards.
-- Words of this crate's own contracts.
use Rattle.std.specs.Prelude.{◌≡◌, ℕ, ◌+◌, ◌<◌, ◌≤◌, List, cond, length, map}
use mathlib.Core.Option.{some}
use lib.ListN.{get_elem?}
use Rattle.transfer_core.specs.Actors.{Actor, is_marked}
use Rattle.transfer_core.specs.Counts.{total}
use Rattle.transfer_core.specs.Job.{job_of}
use Rattle.transfer_core.specs.Plans.{Shape}
use Rattle.transfer_core.specs.Sound.{IsSound}
use Rattle.filter_board.specs.Layout.{done_of, drawn_of, regions_in, word_count}
use Rattle.filter_board.specs.Shares.{IsTold, spent}
use Rattle.filter_board.specs.declared.share.Share.{Share}

abbrev pub actors_of : List Share → List Actor
actors_of shares = map (λ h. h.actor) shares

-- the parts of a hand, where it was told that no morsel of pipe p is left
abbrev pub told_parts : ℕ → Share → ℕ
told_parts p h = cond (is_marked h.told p) h.parts 0

-- a hand's share is sound, by the words of its board
pub record IsSoundShare (s : Shape) (words : List ℕ) (h : Share) : Type 0 where
  -- where it was told that none is left, all morsels of the pipe were drawn
  pub told : (p : ℕ) → IsTold h.told p → (p < length s.pipes) × ((job_of s).morsels p ≤ drawn_of s words p)
  -- who has no part was joined into another
  pub live : h.parts ≡ 0 → h ≡ spent

-- a board of so many parts is sound, by its words and the shares of its hands
pub record IsSoundBoard (s : Shape) (parts : ℕ) (words : List ℕ) (shares : List Share) : Type 0 where
  pub sized : length words ≡ word_count s
  -- it is a sound state of the core over steps, whose actors are the hands
  pub sound : IsSound (job_of s) (drawn_of s words) (done_of s words) (regions_in s words) (actors_of shares)
  pub all_parts : total (λ h. h.parts) shares ≡ parts
  -- each draw that found none left was told to a hand, whose parts pay for it
  pub few : (p : ℕ) → p < length s.pipes → drawn_of s words p ≤ (job_of s).morsels p + total (told_parts p) shares
  pub each : (id : ℕ) (h : Share) → get_elem? shares id ≡ some h → IsSoundShare s words h
