-- Members of a list, and lists whose members may be missing.
use Rattle.std.specs.Prelude.{ℕ, ◌==◌, Bool, List, [], ◌∷◌, Option, None, Some}
use Rattle.std.specs.List.{list_any}

-- x is one of xs
abbrev pub has : ℕ → List ℕ → Bool
has x xs = list_any (λ y. x == y) xs

-- all members, where none is missing
abbrev pub all_of : {X : Type 0} → List (Option X) → Option (List X)
all_of [] = Some []
all_of (None ∷ members) = None
all_of (Some x ∷ members) = front x (all_of members)
  where
    front : {X : Type 0} → X → Option (List X) → Option (List X)
    front x None = None
    front x (Some xs) = Some (x ∷ xs)
