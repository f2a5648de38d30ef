-- The tokens of a printed script.
-- Words of this crate's own contracts.
use Rattle.std.specs.Prelude.{◌≡◌, ℕ, List, [], ◌∷◌}
use Rattle.std.specs.Str.{str_to_ascii_lowercase}
use Rattle.sql_lex.specs.declared.tokens.Token.{Token}
use Rattle.sql_lex.specs.declared.tokens.TokenKind.{TokenKind}
use Rattle.sql_lex.specs.declared.tokens.TokenKind.TheVariants as t
use Rattle.sql_lex.specs.declared.tokens.Mark.TheVariants as m
use Rattle.sql_lex.specs.Tokens.{IsTokenList}
use Rattle.sql_grammar.specs.declared.tree.Script.{Script}
use Rattle.sql_print.specs.Pieces.{Piece, word, name, number, magnitude, text, mark}
use Rattle.sql_print.specs.Printed.{script_pieces}

-- what a piece is as a token
abbrev pub token_of : Piece → TokenKind
token_of (word w) = t.Word (str_to_ascii_lowercase w)
token_of (name n) = t.Quoted n
token_of (number n) = t.Number n
token_of (magnitude n) = t.Number n
token_of (text written) = t.Text written
token_of (mark written) = t.Mark written

-- the tokens are these pieces, and a semicolon at the end
abbrev pub Writes : List Piece → List Token → Type 0
Writes [] tokens = (last : Token) × (tokens ≡ last ∷ []) × (last.kind ≡ t.Mark m.Semicolon)
Writes (piece ∷ pieces) [] = ⊥
Writes (piece ∷ pieces) (token ∷ tokens) = (token.kind ≡ token_of piece) × Writes pieces tokens

-- the text is lexed to the pieces of the script
abbrev pub IsLexed : Script → List ℕ → Type 0
IsLexed script bytes =
    (tokens : List Token) × IsTokenList bytes tokens × Writes (script_pieces script []) tokens
