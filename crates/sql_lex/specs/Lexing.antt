-- The tokens of a script's bytes as a function. That they are the tokens of specs/Tokens.antt is the theorem of `tokens_are_read`.
-- Words of this crate's own contracts.
use Rattle.std.specs.Prelude.{◌≡◌, ◌⊎◌, ℕ, ◌==◌, ◌&&◌, ◌+◌, ◌-◌, ◌*◌, suc, zero}
use Rattle.std.specs.Prelude.{not, nat_eq, nat_le, Bool, true, false, List, []}
use Rattle.std.specs.Prelude.{◌∷◌, ◌++◌, length, take, drop, Option, None, Some}
use Rattle.std.specs.Prelude.{Result, Ok, Err, MatchResult, IsErrOf, if◌then◌else◌}
use Rattle.std.specs.List.{take_while, starts_with}
use Rattle.std.specs.Option.{option_map}
use Rattle.std.specs.Str.{is_utf8, str_to_ascii_lowercase}
use Rattle.std.specs.Char.{digit_value}
use Rattle.std.specs.Str.Parse.{digits_value}
use Rattle.rpt_base.specs.Names.{is_name}
use Rattle.sql_lex.specs.declared.tokens.Mark.{Mark}
use Rattle.sql_lex.specs.declared.tokens.Token.{Token}
use Rattle.sql_lex.specs.declared.tokens.TokenKind.{TokenKind}
use Rattle.sql_lex.specs.declared.tokens.TokenKind.TheVariants as kind
use Rattle.sql_lex.specs.declared.errors.LexError.{LexError}
use Rattle.sql_lex.specs.declared.errors.LexError.TheVariants as error
use Rattle.sql_lex.specs.Tokens.{is_blank, is_word_byte, starts, is_word, is_digits, mark_of}
use Rattle.sql_lex.specs.Tokens.{given_tokens, without_order_mark, first_offset, IsTokenList}

-- what stands before the first such byte
abbrev pub before : ℕ → List ℕ → List ℕ
before byte bytes = take_while (λ b. not (b == byte)) bytes

-- the number with one digit more
abbrev pub with_digit : ℕ → ℕ → ℕ
with_digit value digit = value * 10 + digit_value digit

-- the number that these bytes write, within the limit
unfoldable pub number_of : List ℕ → Option ℕ
number_of bytes =
    if is_digits bytes && nat_le (digits_value 10 bytes) 9223372036854775808
    then Some (digits_value 10 bytes) else None

-- the word or the number that a run of word bytes writes
unfoldable pub run_token : List ℕ → Option TokenKind
run_token run =
    if is_word run then Some (kind.Word (str_to_ascii_lowercase run))
    else option_map kind.Number (number_of run)

-- the token that a run is, and the run's length
abbrev pub sized_token : List ℕ → Option TokenKind → Option (TokenKind × ℕ)
sized_token run None = None
sized_token run (Some kind) = Some (kind, length run)

-- the word or the number at the front
unfoldable pub run_at : List ℕ → Option (TokenKind × ℕ)
run_at bytes = sized_token (take_while is_word_byte bytes) (run_token (take_while is_word_byte bytes))

-- more bytes of a text in front, of so many bytes as written
abbrev pub grown_text : List ℕ → ℕ → Option (List ℕ × ℕ) → Option (List ℕ × ℕ)
grown_text front more None = None
grown_text front more (Some (text, size)) = Some (front ++ text, more + size)

-- the text behind its opening quote, and how many bytes it takes with the closing one; the first argument says that a quote
-- was read last
abbrev pub text_of : Bool → List ℕ → Option (List ℕ × ℕ)
text_of true [] = Some ([], 0)
text_of false [] = None
text_of true (b ∷ bytes) =
    if b == 39 then grown_text (39 ∷ []) 1 (text_of false bytes) else Some ([], 0)
text_of false (b ∷ bytes) =
    if b == 39 then grown_text [] 1 (text_of true bytes) else grown_text (b ∷ []) 1 (text_of false bytes)

-- a quote that closes a text stands first: no other stands behind it
abbrev pub closes : List ℕ → Bool
closes bytes = starts (λ b. b == 39) bytes && not (starts (λ b. b == 39) (drop 1 bytes))

-- a text token, where the text is UTF-8
abbrev pub text_token : Option (List ℕ × ℕ) → Option (TokenKind × ℕ)
text_token None = None
text_token (Some (text, size)) = if is_utf8 text then Some (kind.Text text, 1 + size) else None

-- the quoted name that these bytes are, where a quote stands first behind them
abbrev pub quoted_of : List ℕ → List ℕ → Option (TokenKind × ℕ)
quoted_of inner behind =
    if starts (λ b. b == 34) behind && is_name inner
    then Some (kind.Quoted (str_to_ascii_lowercase inner), length inner + 2) else None

-- the quoted name behind its opening quote
unfoldable pub quoted_token : List ℕ → Option (TokenKind × ℕ)
quoted_token bytes = quoted_of (before 34 bytes) (drop (length (before 34 bytes)) bytes)

-- a mark of two bytes, or else of one
abbrev pub mark_or : Option Mark → ℕ → Option (TokenKind × ℕ) → Option (TokenKind × ℕ)
mark_or None size others = others
mark_or (Some mark) size others = Some (kind.Mark mark, size)

-- the mark at the front, and how many bytes it takes
unfoldable pub mark_token : List ℕ → Option (TokenKind × ℕ)
mark_token bytes =
    mark_or (mark_of (take 2 bytes)) (length (take 2 bytes))
    (mark_or (mark_of (take 1 bytes)) 1 None)

-- the token at the front, and how many bytes it takes
unfoldable pub token_at : List ℕ → Option (TokenKind × ℕ)
token_at bytes =
    if starts is_word_byte bytes then run_at bytes else (
    if starts (λ b. b == 39) bytes then text_token (text_of false (drop 1 bytes)) else (
    if starts (λ b. b == 34) bytes then quoted_token (drop 1 bytes) else mark_token bytes))

-- the item that a token is
abbrev pub as_item : Option (TokenKind × ℕ) → Option (Option TokenKind × ℕ)
as_item None = None
as_item (Some (kind, size)) = Some (Some kind, size)

-- the item at the front, which may give a token, and how many bytes it takes
unfoldable pub item_at : List ℕ → Option (Option TokenKind × ℕ)
item_at bytes =
    if starts is_blank bytes then Some (None, 1) else (
    if starts_with nat_eq bytes (45 ∷ 45 ∷ []) then Some (None, 2 + length (before 10 (drop 2 bytes)))
    else as_item (token_at bytes))

-- these tokens, and then others
abbrev pub joined_tokens : List Token → Result (List Token) LexError → Result (List Token) LexError
joined_tokens front (Err e) = Err e
joined_tokens front (Ok others) = Ok (front ++ others)

-- what an item makes, or that none stands at this offset
abbrev pub item_or_bad : ℕ → (Option TokenKind × ℕ → Result (List Token) LexError)
    → Option (Option TokenKind × ℕ) → Result (List Token) LexError
item_or_bad offset made None = Err (error.At offset)
item_or_bad offset made (Some item) = made item

-- the tokens from an offset on, behind the bytes that are skipped, which belong to the item before
abbrev pub tokens_behind : ℕ → ℕ → List ℕ → Result (List Token) LexError
tokens_behind skipped offset [] = Ok []
tokens_behind (suc skipped) offset (b ∷ bytes) = tokens_behind skipped (offset + 1) bytes
tokens_behind zero offset (b ∷ bytes) =
    item_or_bad offset
    (λ item. joined_tokens (given_tokens item.0 offset (offset + item.1)) (tokens_behind (item.1 - 1) (offset + 1) bytes))
    (item_at (b ∷ bytes))

-- the bytes' tokens, or the offset at which no item stands
unfoldable pub lexed : List ℕ → Result (List Token) LexError
lexed bytes = tokens_behind 0 (first_offset bytes) (without_order_mark bytes)

-- the answer, seen so, is this one; or memory ran out
abbrev pub Gives : {X : Type 0} → (X → List Token) → Result (List Token) LexError → Result X LexError → Type 0
Gives seen said result =
    MatchResult result (λ x. said ≡ Ok (seen x)) (λ e. (e ≡ error.Memory) ⊎ (said ≡ Err e))

-- the bytes have no tokens but those that are given, where memory serves
abbrev pub GivesNoOther : {X : Type 0} → (X → List Token) → List ℕ → Result X LexError → Type 0
GivesNoOther seen bytes result = (tokens : List Token) → IsTokenList bytes tokens
    → MatchResult result (λ x. seen x ≡ tokens) (λ e. e ≡ error.Memory)

-- the bytes are refused at this offset, where memory serves
abbrev pub IsRefusedAt : {X : Type 0} → ℕ → Result X LexError → Type 0
IsRefusedAt offset result = IsErrOf result error.Memory ⊎ IsErrOf result (error.At offset)
