-- The tokens of a script's bytes: from left to right the longest item that stands there.
use Rattle.std.specs.Prelude.{◌≡◌, ◌⊎◌, ℕ, ◌≤◌, ◌<◌, ◌+◌, ◌-◌, ◌==◌, ◌&&◌, ◌||◌, not}
use Rattle.std.specs.Prelude.{nat_le, Bool, false, List, [], ◌∷◌, ◌++◌, length, drop}
use Rattle.std.specs.Prelude.{Option, None, Some, IsTrue, codes, nat_eq, if◌then◌else◌}
use Rattle.std.specs.List.{list_all, flat_map, starts_with}
use Rattle.std.specs.Char.{is_ascii_alphabetic, is_ascii_digit}
use Rattle.std.specs.Str.{IsUtf8, bytes_eq, str_to_ascii_lowercase}
use Rattle.std.specs.Str.Parse.{digits_value}
use Rattle.rpt_base.specs.Names.{is_name}
use Rattle.rpt_base.specs.declared.limits.TheConstants.{MAX_NAME_BYTES}
use Rattle.sql_lex.specs.declared.tokens.Mark.{Mark}
use Rattle.sql_lex.specs.declared.tokens.Mark.TheVariants.{LeftParen, RightParen, Comma, Semicolon}
use Rattle.sql_lex.specs.declared.tokens.Mark.TheVariants.{Dot, Star, Minus, Eq, Ne, Lt, Le, Gt, Ge}
use Rattle.sql_lex.specs.declared.tokens.Token.{Token}
use Rattle.sql_lex.specs.declared.tokens.TokenKind.{TokenKind}
use Rattle.sql_lex.specs.declared.tokens.TokenKind.TheVariants as kind

-- a tab, a line end, a carriage return or a space
abbrev pub is_blank : ℕ → Bool
is_blank b = b == 9 || (b == 10 || (b == 13 || b == 32))

-- a word begins with an ASCII letter or an underscore
abbrev pub begins_word : ℕ → Bool
begins_word b = is_ascii_alphabetic b || b == 95

-- and goes on with these and digits
abbrev pub is_word_byte : ℕ → Bool
is_word_byte b = begins_word b || is_ascii_digit b

-- the first byte passes the test
abbrev pub starts : (ℕ → Bool) → List ℕ → Bool
starts passes [] = false
starts passes (b ∷ bytes) = passes b

-- a word as it is written
abbrev pub is_word : List ℕ → Bool
is_word bytes =
    starts begins_word bytes && (list_all is_word_byte bytes && nat_le (length bytes) MAX_NAME_BYTES)

-- one digit or more
abbrev pub is_digits : List ℕ → Bool
is_digits bytes = nat_le 1 (length bytes) && list_all is_ascii_digit bytes

-- a text as it is written between its quotes, with each quote doubled
abbrev pub doubled_quotes : List ℕ → List ℕ
doubled_quotes text = flat_map (λ b. if b == 39 then 39 ∷ 39 ∷ [] else (b ∷ [])) text

-- the mark that these bytes write
abbrev pub mark_of : List ℕ → Option Mark
mark_of bytes =
    if bytes_eq bytes (codes "(") then Some LeftParen else (
    if bytes_eq bytes (codes ")") then Some RightParen else (
    if bytes_eq bytes (codes ",") then Some Comma else (
    if bytes_eq bytes (codes ";") then Some Semicolon else (
    if bytes_eq bytes (codes ".") then Some Dot else (
    if bytes_eq bytes (codes "*") then Some Star else (
    if bytes_eq bytes (codes "-") then Some Minus else (
    if bytes_eq bytes (codes "=") then Some Eq else (
    if bytes_eq bytes (codes "<>") then Some Ne else (
    if bytes_eq bytes (codes "!=") then Some Ne else (
    if bytes_eq bytes (codes "<") then Some Lt else (
    if bytes_eq bytes (codes "<=") then Some Le else (
    if bytes_eq bytes (codes ">") then Some Gt else (
    if bytes_eq bytes (codes ">=") then Some Ge else None)))))))))))))

abbrev pub in_quotes : List ℕ → List ℕ
in_quotes text = 39 ∷ (doubled_quotes text ++ 39 ∷ [])

abbrev pub in_double_quotes : List ℕ → List ℕ
in_double_quotes name = 34 ∷ (name ++ 34 ∷ [])

-- these bytes write a token of this kind
abbrev pub Spells : List ℕ → TokenKind → Type 0
Spells bytes (kind.Word word) = IsTrue (is_word bytes) × (word ≡ str_to_ascii_lowercase bytes)
Spells bytes (kind.Quoted name) =
    (inner : List ℕ) × (bytes ≡ in_double_quotes inner) × IsTrue (is_name inner)
    × (name ≡ str_to_ascii_lowercase inner)
Spells bytes (kind.Number n) =
    IsTrue (is_digits bytes) × (n ≡ digits_value 10 bytes) × (n ≤ 9223372036854775808)
Spells bytes (kind.Text text) = IsUtf8 text × (bytes ≡ in_quotes text)
Spells bytes (kind.Mark mark) = mark_of bytes ≡ Some mark

-- what stands behind a token doesn't go on with it: a word and a number are a whole run, and a text's last quote isn't doubled
abbrev pub Ends : TokenKind → List ℕ → Type 0
Ends (kind.Word word) rest = starts is_word_byte rest ≡ false
Ends (kind.Quoted name) rest = Unit {0}
Ends (kind.Number n) rest = starts is_word_byte rest ≡ false
Ends (kind.Text text) rest = starts (λ b. b == 39) rest ≡ false
Ends (kind.Mark mark) rest = Unit {0}

-- one byte of white space
abbrev pub IsWhite : List ℕ → Type 0
IsWhite bytes = (b : ℕ) × (bytes ≡ b ∷ []) × IsTrue (is_blank b)

-- a line end stands first, or nothing does
abbrev pub IsLineEnd : List ℕ → Type 0
IsLineEnd bytes = (bytes ≡ []) ⊎ IsTrue (starts (λ b. b == 10) bytes)

-- `--` and all that stands before the next line end or the end of the bytes
abbrev pub IsComment : List ℕ → List ℕ → Type 0
IsComment bytes rest =
    (text : List ℕ) × (bytes ≡ 45 ∷ 45 ∷ text) × IsTrue (list_all (λ b. not (b == 10)) text)
    × IsLineEnd rest

-- A script's item, with the bytes that write it: a token, or white space or a comment, which give none.
pub record Item : Type 0 where
  pub spelling : List ℕ
  pub token : Option TokenKind

-- the item stands before the rest
abbrev pub IsItem : List ℕ → Option TokenKind → List ℕ → Type 0
IsItem spelling None rest = IsWhite spelling ⊎ IsComment spelling rest
IsItem spelling (Some kind) rest = Spells spelling kind × Ends kind rest

-- no item that stands at the front of the bytes takes more of them
abbrev pub HasNoLongerItem : List ℕ → ℕ → Type 0
HasNoLongerItem bytes size = (other : Item) (behind : List ℕ) → bytes ≡ other.spelling ++ behind
    → IsItem other.spelling other.token behind → length other.spelling ≤ size

-- no item stands at the front of the bytes
abbrev pub HasNoItem : List ℕ → Type 0
HasNoItem bytes = (item : Item) (behind : List ℕ) → bytes ≡ item.spelling ++ behind
    → IsItem item.spelling item.token behind → ⊥

-- the item is the longest of those that stand at the front of the bytes, and leaves the rest
pub record Takes (bytes : List ℕ) (item : Item) (rest : List ℕ) : Type 0 where
  pub split : bytes ≡ item.spelling ++ rest
  pub stands : IsItem item.spelling item.token rest
  pub longest : HasNoLongerItem bytes (length item.spelling)

-- these items are taken one after the other, and then the rest is left
abbrev pub TakesAll : List ℕ → List Item → List ℕ → Type 0
TakesAll bytes [] rest = bytes ≡ rest
TakesAll bytes (item ∷ items) rest =
    (behind : List ℕ) × Takes bytes item behind × TakesAll behind items rest

-- the token that an item gives, with its place from one offset to another
abbrev pub given_tokens : Option TokenKind → ℕ → ℕ → List Token
given_tokens None start end = []
given_tokens (Some kind) start end = record { kind = kind; start = start; end = end } ∷ []

-- the tokens of items, the first of which begins at this offset
abbrev pub tokens_from : ℕ → List Item → List Token
tokens_from at [] = []
tokens_from at (item ∷ items) =
    given_tokens item.token at (at + length item.spelling) ++ tokens_from (at + length item.spelling) items

-- a leading byte order mark is passed over like white space
abbrev pub order_mark : List ℕ
order_mark = 239 ∷ 187 ∷ 191 ∷ []

abbrev pub without_order_mark : List ℕ → List ℕ
without_order_mark bytes = if starts_with nat_eq bytes order_mark then drop 3 bytes else bytes

-- the offset behind a leading byte order mark
abbrev pub first_offset : List ℕ → ℕ
first_offset bytes = length bytes - length (without_order_mark bytes)

-- the bytes are items to their end, and these are the tokens of those
abbrev pub IsTokenList : List ℕ → List Token → Type 0
IsTokenList bytes tokens =
    (items : List Item) × TakesAll (without_order_mark bytes) items []
    × (tokens ≡ tokens_from (first_offset bytes) items)

-- at this offset, behind some items, something stands that no item is the front of
pub record IsBadAt (bytes : List ℕ) (offset : ℕ) : Type 0 where
  pub items : List Item
  pub rest : List ℕ
  pub taken : TakesAll (without_order_mark bytes) items rest
  pub more : rest ≡ [] → ⊥
  pub none : HasNoItem rest
  pub place : offset + length rest ≡ length bytes

-- what a token of this kind holds: a word or a name in lower case, or a number within the limit
abbrev pub IsKind : TokenKind → Type 0
IsKind (kind.Word word) = IsTrue (is_word word) × (str_to_ascii_lowercase word ≡ word)
IsKind (kind.Quoted name) = IsTrue (is_name name) × (str_to_ascii_lowercase name ≡ name)
IsKind (kind.Number n) = n ≤ 9223372036854775808
IsKind (kind.Text text) = Unit {0}
IsKind (kind.Mark mark) = Unit {0}

-- tokens one after the other, each of a byte or more, between two offsets
abbrev pub AreTokensFrom : ℕ → ℕ → List Token → Type 0
AreTokensFrom start end [] = start ≤ end
AreTokensFrom start end (token ∷ tokens) =
    (start ≤ token.start) × (token.start < token.end) × IsKind token.kind
    × AreTokensFrom token.end end tokens

-- tokens of so many bytes: what a reader of them may rely on
abbrev pub AreTokens : ℕ → List Token → Type 0
AreTokens end tokens = AreTokensFrom 0 end tokens
