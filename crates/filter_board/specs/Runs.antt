-- Items that are put by one port, one after the other.
-- Words of this crate's own contracts.
use Rattle.std.specs.Prelude.{ℕ, ◌/◌, ◌++◌, List, [], ◌∷◌, bit_or, fold, if◌then◌else◌}
use Rattle.transfer_core.specs.Actors.{Actor, Holds, actor, is_listed}
use Rattle.transfer_core.specs.Job.{IsPassing, Job}

-- an actor may put an item by port q of pipe p: the item passes, and lies in the morsel that the actor holds
pub record MayPut (j : Job) (p q : ℕ) (a : Actor) (item : ℕ) : Type 0 where
  pub passing : IsPassing j p item q
  pub holds : Holds a p (item / j.size)

-- the puts that are listed once an item is put by a port, too
abbrev pub with_listed : ℕ → List (ℕ × ℕ) → ℕ → List (ℕ × ℕ)
with_listed port puts item = if is_listed item port puts then puts else puts ++ (item, port) ∷ []

-- an actor lists a put of each of these items by a port, in order, where it isn't listed yet
abbrev pub with_all_put : List ℕ → ℕ → Actor → Actor
with_all_put items port a = actor a.held (fold (with_listed port) a.puts items) a.finished a.seen

-- a number once the masks of these items are or'd into it
abbrev pub with_masks : (ℕ → ℕ) → ℕ → List ℕ → ℕ
with_masks mask n items = fold (λ m item. bit_or m (mask item)) n items
