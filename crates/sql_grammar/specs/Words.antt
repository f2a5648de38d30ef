-- A table of words.
-- Words of this crate's own contracts.
use Rattle.std.specs.Prelude.{ℕ, List, [], ◌∷◌, if◌then◌else◌}
use Rattle.std.specs.Str.{bytes_eq}
use Rattle.sql_grammar.specs.declared.kinds.Kind.{Kind}

-- the kind beside the first of these words that the word is, or else this kind
abbrev pub kind_among : List (List ℕ × Kind) → Kind → List ℕ → Kind
kind_among [] none word = none
kind_among (other ∷ others) none word =
    if bytes_eq word other.0 then other.1 else kind_among others none word
