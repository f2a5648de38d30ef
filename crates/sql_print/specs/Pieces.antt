-- What a printed script is made of.
-- Words of this crate's own contracts.
use Rattle.std.specs.Prelude.{ℕ, ◌≤◌, List, [], ◌∷◌, ◌++◌, codes, decimal, IsTrue}
use Rattle.std.specs.Str.{IsUtf8}
use Rattle.sql_lex.specs.declared.tokens.Mark.{Mark}
use Rattle.sql_lex.specs.declared.tokens.Mark.TheVariants as m
use Rattle.sql_lex.specs.Tokens.{is_word, doubled_quotes}
use Rattle.sql_grammar.specs.Kinds.{is_name_in_lower_case}

-- The pieces, each of which is a token.
pub data Piece : Type 0 where
  -- a keyword or a type, in capitals
  word : List ℕ → Piece
  name : List ℕ → Piece
  -- a number that no minus stands before
  number : ℕ → Piece
  -- a number behind a minus
  magnitude : ℕ → Piece
  text : List ℕ → Piece
  mark : Mark → Piece

abbrev pub mark_text : Mark → List ℕ
mark_text m.LeftParen = codes "("
mark_text m.RightParen = codes ")"
mark_text m.Comma = codes ","
mark_text m.Semicolon = codes ";"
mark_text m.Dot = codes "."
mark_text m.Star = codes "*"
mark_text m.Minus = codes "-"
mark_text m.Eq = codes "="
mark_text m.Ne = codes "<>"
mark_text m.Lt = codes "<"
mark_text m.Le = codes "<="
mark_text m.Gt = codes ">"
mark_text m.Ge = codes ">="

-- a piece as it is written
abbrev pub spelling : Piece → List ℕ
spelling (word w) = w
spelling (name n) = 34 ∷ (n ++ 34 ∷ [])
spelling (number n) = decimal n
spelling (magnitude n) = decimal n
spelling (text t) = 39 ∷ (doubled_quotes t ++ 39 ∷ [])
spelling (mark m) = mark_text m

-- the pieces with a space behind each, and a semicolon at the end
abbrev pub shown_text : List Piece → List ℕ
shown_text [] = codes ";"
shown_text (piece ∷ pieces) = spelling piece ++ 32 ∷ shown_text pieces

-- the piece is one that a script can hold
abbrev pub IsPiece : Piece → Type 0
IsPiece (word w) = IsTrue (is_word w)
IsPiece (name n) = IsTrue (is_name_in_lower_case n)
IsPiece (number n) = n ≤ 9223372036854775807
IsPiece (magnitude n) = n ≤ 9223372036854775808
IsPiece (text t) = IsUtf8 t
IsPiece (mark m) = Unit {0}

abbrev pub ArePieces : List Piece → Type 0
ArePieces [] = Unit {0}
ArePieces (piece ∷ pieces) = IsPiece piece × ArePieces pieces
