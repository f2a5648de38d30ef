-- How a pattern fits up to its next `%`.
-- Words of this crate's own contracts.
use Rattle.std.specs.Prelude.{ℕ, ◌≡◌, ◌<◌, ◌≤◌, List, true, false, length}
use Rattle.std.specs.Str.{chars}
use Rattle.predicate.specs.declared.like.Fit.{Fit}
use Rattle.predicate.specs.declared.like.Fit.TheVariants.{UpToPercent, Whole, Not}
use Rattle.predicate.specs.Like.{is_like, some_tail}

-- what is left decides, for the text itself and for all that is left of it behind some of its characters
abbrev pub IsFit : List ℕ → List ℕ → Fit → Type 0
IsFit pattern text (UpToPercent behind rest) =
    (is_like pattern text ≡ some_tail (is_like (chars behind.now)) (chars rest.now))
    × (some_tail (is_like pattern) text ≡ some_tail (is_like (chars behind.now)) (chars rest.now))
IsFit pattern text Whole = is_like pattern text ≡ true
IsFit pattern text Not = is_like pattern text ≡ false

-- what is left of the pattern is shorter, and no more of the text is left than there was
abbrev pub IsNearer : ℕ → ℕ → Fit → Type 0
IsNearer pattern text (UpToPercent behind rest) = (length behind.now < pattern) × (length rest.now ≤ text)
IsNearer pattern text Whole = Unit {0}
IsNearer pattern text Not = Unit {0}
