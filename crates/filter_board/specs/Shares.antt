-- What hands have of their board, and what steps change of it.
-- Words of this crate's own contracts.
use Rattle.std.specs.Prelude.{◌≡◌, ℕ, ◌+◌, ◌-◌, ◌*◌, ◌^◌, ◌<◌, ◌≤◌, ◌==◌, bit_and, nat_lt}
use Rattle.std.specs.Prelude.{List, [], ◌∷◌, ◌++◌, Bool, false, true, ◌||◌, if◌then◌else◌, replicate, slice_set}
use Rattle.transfer_core.specs.Actors.{Actor, HasFinished, actor, idle, is_marked, morsels_of, nothing}
use Rattle.transfer_core.specs.Actors.{with_finished, with_morsel, with_seen}
use Rattle.transfer_core.specs.Counts.{times}
use Rattle.filter_board.specs.Runs.{with_all_put}
use Rattle.filter_board.specs.declared.share.Share.{Share}

abbrev pub share : Actor → List Bool → ℕ → Share
share actor told parts = record { actor = actor; told = told; parts = parts }

-- the parts of so many workers
abbrev pub parts_of : ℕ → ℕ
parts_of workers = 2 ^ 32 * workers

-- the marks of either list
abbrev pub either : List Bool → List Bool → List Bool
either [] marks = marks
either (x ∷ xs) [] = x ∷ xs
either (x ∷ xs) (y ∷ ys) = (x || y) ∷ either xs ys

-- ---- what is said of a hand
-- it was told that no morsel of pipe p is left, by these marks
abbrev pub IsTold : List Bool → ℕ → Type 0
IsTold told p = is_marked told p ≡ true

-- all that it has finished of pipe p is below n
abbrev pub HasFinishedBelow : ℕ → ℕ → Actor → Type 0
HasFinishedBelow n p a = (m : ℕ) → HasFinished a p m → m < n

-- of the first n pipes it has finished no morsel twice
abbrev pub HasFinishedOnce : ℕ → Actor → Type 0
HasFinishedOnce n a = (p m : ℕ) → p < n → times m (morsels_of p a.finished) ≤ 1

-- of the first n pipes two hands have finished no morsel in common, and none twice
abbrev pub AreApart : ℕ → Actor → Actor → Type 0
AreApart n a b = (p m : ℕ) → p < n → times m (morsels_of p a.finished) + times m (morsels_of p b.finished) ≤ 1

-- ---- a hand that has made no step, and one that was joined into another
abbrev pub fresh : ℕ → Share
fresh parts = share (idle 128) (replicate 128 false) parts

abbrev pub spent : Share
spent = share (actor nothing nothing nothing []) [] 0

-- ---- what steps change
-- a draw from pipe p that found number r: morsel r is held then, or no morsel was left
abbrev pub after_draw : ℕ → ℕ → Share → ℕ → Share
after_draw p morsels h r =
    if nat_lt r morsels
    then share (with_morsel p r h.actor) h.told h.parts
    else share h.actor (slice_set h.told p true) h.parts

abbrev pub after_puts : List ℕ → ℕ → Share → Share
after_puts items port h = share (with_all_put items port h.actor) h.told h.parts

-- a look at the word of a run of items in the region of a port that found r: the puts are listed where r has all bits of the mask
abbrev pub after_find : List ℕ → ℕ → ℕ → Share → ℕ → Share
after_find items port mask h r = if bit_and r mask == mask then after_puts items port h else h

abbrev pub after_finish : Share → Share
after_finish h = share (with_finished h.actor.held h.actor) h.told h.parts

-- a look at the number of finished morsels of pipe p that found r
abbrev pub after_look : ℕ → ℕ → Share → ℕ → Share
after_look p morsels h r = if nat_lt r morsels then h else share (with_seen p h.actor) h.told h.parts

-- a split: the one keeps all but n parts, and the other gets n parts and nothing that was finished
abbrev pub piece_actor : Actor → Actor
piece_actor a = actor nothing nothing nothing a.seen

abbrev pub less : ℕ → Share → Share
less n h = share h.actor h.told (h.parts - n)

abbrev pub piece : ℕ → Share → Share
piece n h = share (piece_actor h.actor) h.told n

-- a join of two that hold nothing
abbrev pub joined_actor : Actor → Actor → Actor
joined_actor a b = actor nothing nothing (a.finished ++ b.finished) (either a.seen b.seen)

abbrev pub joined : Share → Share → Share
joined g h = share (joined_actor g.actor h.actor) (either g.told h.told) (g.parts + h.parts)
