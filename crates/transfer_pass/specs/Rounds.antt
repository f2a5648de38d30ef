-- Hands between rounds.
-- Words of this crate's own contracts.
use Rattle.std.specs.Prelude.{◌≡◌, ℕ, ◌+◌, ◌<◌, List, Bool}
use Rattle.transfer_core.specs.Actors.{HasSeen, HoldsNone, actor}
use Rattle.transfer_core.specs.Counts.{total}
use Rattle.filter_board.specs.Shares.{IsTold}
use Rattle.filter_board.specs.Views.{HandView, TableId, with_actor}

-- a hand of this board, which holds no morsel
pub record IsFree (board : TableId) (hand : HandView) : Type 0 where
  pub own : hand.of ≡ board
  pub free : HoldsNone hand.actor

-- the parts of all these hands
abbrev pub all_parts : List HandView → ℕ
all_parts hands = total (λ h. h.parts) hands

-- it has seen each of the first n pipes full, and it was told that no morsel is left of any of them
abbrev pub HasSeenFirst : ℕ → HandView → Type 0
HasSeenFirst n hand = (p : ℕ) → p < n → HasSeen hand.actor p

abbrev pub IsToldFirst : ℕ → HandView → Type 0
IsToldFirst n hand = (p : ℕ) → p < n → IsTold hand.told p

-- who has seen the first of so many pipes full is told of one more
abbrev pub IsToldNext : ℕ → HandView → HandView → Type 0
IsToldNext pipes before after = (n : ℕ) → n < pipes → HasSeenFirst n before → IsToldFirst (n + 1) after

-- what it has seen full stays seen
abbrev pub KeepsSeen : HandView → HandView → Type 0
KeepsSeen before after = (p : ℕ) → HasSeen before.actor p → HasSeen after.actor p

-- the hand, with these marks of pipes that it has seen full
abbrev pub with_marks : List Bool → HandView → HandView
with_marks seen hand = with_actor (λ a. actor a.held a.puts a.finished seen) hand
