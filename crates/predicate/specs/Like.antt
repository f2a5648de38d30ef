-- LIKE, over characters.
use Rattle.std.specs.Prelude.{ℕ, ◌&&◌, ◌||◌, ◌==◌, Bool, true, false, List, [], ◌∷◌, if◌then◌else◌}

-- the text is empty
abbrev pub is_empty : List ℕ → Bool
is_empty [] = true
is_empty (c ∷ text) = false

-- the text, or what is left of it behind some of its characters, passes
abbrev pub some_tail : (List ℕ → Bool) → List ℕ → Bool
some_tail passes [] = passes []
some_tail passes (c ∷ text) = passes (c ∷ text) || some_tail passes text

-- the text has a first character that passes, and a rest that passes
abbrev pub first_and_rest : (ℕ → Bool) → (List ℕ → Bool) → List ℕ → Bool
first_and_rest first rest [] = false
first_and_rest first rest (c ∷ text) = first c && rest text

-- a character of a pattern, but for `%`, stands for this one: `_` for any, another for itself
abbrev pub stands_for : ℕ → ℕ → Bool
stands_for p c = p == 95 || p == c

-- the whole text is as the pattern says, whose `%` stands for any run of characters
abbrev pub is_like : List ℕ → List ℕ → Bool
is_like [] = is_empty
is_like (p ∷ pattern) = if p == 37 then some_tail (is_like pattern) else first_and_rest (stands_for p) (is_like pattern)
