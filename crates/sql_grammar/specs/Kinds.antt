-- What the grammar knows of a token.
use Rattle.std.specs.Prelude.{ℕ, List, [], ◌∷◌, codes, if◌then◌else◌, Bool}
use Rattle.std.specs.Prelude.{◌||◌, ◌&&◌, not, ◌==◌, nat_le}
use Rattle.std.specs.List.{list_all, list_any}
use Rattle.std.specs.Str.{bytes_eq}
use Rattle.rpt_base.specs.Names.{is_name}
use Rattle.rpt_base.specs.Lists.{has}
use Rattle.sql_lex.specs.declared.tokens.Mark.{Mark}
use Rattle.sql_lex.specs.declared.tokens.Mark.TheVariants as mark
use Rattle.sql_lex.specs.declared.tokens.Token.{Token}
use Rattle.sql_lex.specs.declared.tokens.TokenKind.{TokenKind}
use Rattle.sql_lex.specs.declared.tokens.TokenKind.TheVariants as token_kind
use Rattle.sql_lex.specs.Tokens.{is_word}
use Rattle.sql_grammar.specs.declared.kinds.Kind.{Kind}
use Rattle.sql_grammar.specs.declared.kinds.Kind.TheVariants as k

abbrev pub is_not_capital : ℕ → Bool
is_not_capital b = not (nat_le 65 b) || not (nat_le b 90)

-- a name, of which ASCII letters are in lower case, as the lexer gives them
abbrev pub is_name_in_lower_case : List ℕ → Bool
is_name_in_lower_case bytes = is_name bytes && list_all is_not_capital bytes

-- a word in lower case, as the lexer gives one: letters, digits and underscores
abbrev pub is_word_in_lower_case : List ℕ → Bool
is_word_in_lower_case bytes = is_word bytes && list_all is_not_capital bytes

-- the reserved words that the grammar has no place for
abbrev pub other_reserved : List (List ℕ)
other_reserved =
    codes "asc" ∷ codes "by" ∷ codes "cross" ∷ codes "desc" ∷ codes "distinct" ∷ codes "except"
    ∷ codes "exists" ∷ codes "fetch" ∷ codes "full" ∷ codes "group" ∷ codes "having"
    ∷ codes "intersect" ∷ codes "is" ∷ codes "left" ∷ codes "limit" ∷ codes "natural"
    ∷ codes "null" ∷ codes "offset" ∷ codes "order" ∷ codes "outer" ∷ codes "right"
    ∷ codes "union" ∷ codes "using" ∷ codes "window" ∷ codes "with" ∷ []

-- a keyword, a reserved word, a type's word or a name
abbrev pub kind_of_word : List ℕ → Kind
kind_of_word word =
    if bytes_eq word (codes "and") then k.And else (
    if bytes_eq word (codes "as") then k.As else (
    if bytes_eq word (codes "between") then k.Between else (
    if bytes_eq word (codes "create") then k.Create else (
    if bytes_eq word (codes "from") then k.From else (
    if bytes_eq word (codes "in") then k.In else (
    if bytes_eq word (codes "inner") then k.Inner else (
    if bytes_eq word (codes "join") then k.Join else (
    if bytes_eq word (codes "like") then k.Like else (
    if bytes_eq word (codes "not") then k.Not else (
    if bytes_eq word (codes "on") then k.On else (
    if bytes_eq word (codes "or") then k.Or else (
    if bytes_eq word (codes "select") then k.Select else (
    if bytes_eq word (codes "table") then k.Table else (
    if bytes_eq word (codes "where") then k.Where else (
    if bytes_eq word (codes "int") then k.Int else (
    if bytes_eq word (codes "integer") then k.Integer else (
    if bytes_eq word (codes "bigint") then k.Bigint else (
    if bytes_eq word (codes "text") then k.TextType else (
    if list_any (bytes_eq word) other_reserved then k.Reserved else k.Name)))))))))))))))))))

-- a number is a literal up to 9223372036854775807, and one more behind a minus
abbrev pub kind_of_number : ℕ → Kind
kind_of_number n =
    if nat_le n 9223372036854775807 then k.Number else (
    if n == 9223372036854775808 then k.Greatest else k.Other)

abbrev pub kind_of_mark : Mark → Kind
kind_of_mark mark.LeftParen = k.LeftParen
kind_of_mark mark.RightParen = k.RightParen
kind_of_mark mark.Comma = k.Comma
kind_of_mark mark.Semicolon = k.Semicolon
kind_of_mark mark.Dot = k.Dot
kind_of_mark mark.Star = k.Star
kind_of_mark mark.Minus = k.Minus
kind_of_mark mark.Eq = k.Eq
kind_of_mark mark.Ne = k.Ne
kind_of_mark mark.Lt = k.Lt
kind_of_mark mark.Le = k.Le
kind_of_mark mark.Gt = k.Gt
kind_of_mark mark.Ge = k.Ge

-- What no bytes are lexed to, a word or a quoted name that is none, is of no use in the grammar.
abbrev pub kind_by : TokenKind → Kind
kind_by (token_kind.Word word) = if is_word_in_lower_case word then kind_of_word word else k.Other
kind_by (token_kind.Quoted name) = if is_name_in_lower_case name then k.Name else k.Other
kind_by (token_kind.Number n) = kind_of_number n
kind_by (token_kind.Text text) = k.Text
kind_by (token_kind.Mark mark) = kind_of_mark mark

unfoldable pub kind_of : Token → Kind
kind_of token = kind_by token.kind

-- kinds by number, to compare them
abbrev pub code : Kind → ℕ
code k.And = 0
code k.As = 1
code k.Between = 2
code k.Create = 3
code k.From = 4
code k.In = 5
code k.Inner = 6
code k.Join = 7
code k.Like = 8
code k.Not = 9
code k.On = 10
code k.Or = 11
code k.Select = 12
code k.Table = 13
code k.Where = 14
code k.Reserved = 15
code k.Int = 16
code k.Integer = 17
code k.Bigint = 18
code k.TextType = 19
code k.Name = 20
code k.Number = 21
code k.Greatest = 22
code k.Text = 23
code k.LeftParen = 24
code k.RightParen = 25
code k.Comma = 26
code k.Semicolon = 27
code k.Dot = 28
code k.Star = 29
code k.Minus = 30
code k.Eq = 31
code k.Ne = 32
code k.Lt = 33
code k.Le = 34
code k.Gt = 35
code k.Ge = 36
code k.Other = 37

abbrev pub numbers : List Kind → List ℕ
numbers [] = []
numbers (kind ∷ kinds) = code kind ∷ numbers kinds

-- whether the kind is one of these
abbrev pub among : List Kind → Kind → Bool
among kinds kind = has (code kind) (numbers kinds)
