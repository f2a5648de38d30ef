-- The order of relations that words say.
use Rattle.std.specs.Prelude.{ℕ, ◌==◌, Bool, List, [], ◌∷◌, length, map, Option, None, Some, if◌then◌else◌}
use Rattle.std.specs.List.{position_or_len}
use Rattle.std.specs.Str.{bytes_eq, str_to_ascii_lowercase}
use Rattle.bound_query.specs.Query.{Query}
use Rattle.rpt_base.specs.Orders.{is_order}

abbrev pub is_comma : ℕ → Bool
is_comma c = c == 44

-- a byte in front of the first piece
abbrev pub onto : ℕ → List (List ℕ) → List (List ℕ)
onto c [] = (c ∷ []) ∷ []
onto c (piece ∷ pieces) = (c ∷ piece) ∷ pieces

-- the pieces of a text between its commas
unfoldable pub pieces_of : List ℕ → List (List ℕ)
pieces_of [] = [] ∷ []
pieces_of (c ∷ text) = if is_comma c then [] ∷ pieces_of text else onto c (pieces_of text)

-- a piece is a relation's name, whatever the case of its ASCII letters
abbrev pub is_name : List ℕ → List ℕ → Bool
is_name piece alias = bytes_eq (str_to_ascii_lowercase piece) alias

-- the number of the relation that a piece names; the number of relations where it names none
abbrev pub relation_named : Query → List ℕ → ℕ
relation_named query piece = position_or_len (is_name piece) query.aliases

-- the relations that the pieces name, where they are all of the query's, each once
abbrev pub named_order : Query → List ℕ → Option (List ℕ)
named_order query text = where_order (map (relation_named query) (pieces_of text))
  where
    where_order : List ℕ → Option (List ℕ)
    where_order order = if is_order (length query.aliases) order then Some order else None

-- the order that is given, if any is; none where its words don't say one
abbrev pub order_of : Query → Option (List ℕ) → Option (Option (List ℕ))
order_of query None = Some None
order_of query (Some text) = given (named_order query text)
  where
    given : Option (List ℕ) → Option (Option (List ℕ))
    given None = None
    given (Some order) = Some (Some order)
