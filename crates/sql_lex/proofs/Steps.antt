-- How far the lexer's loops have come: one byte more, or one item more.
use Rattle.std.proofs.Common.{◌≡◌, ◌≢◌, ◌∙◌, ap, sym, refl, ℕ, suc, zero, ◌<◌, ◌≤◌, ◌+◌, ◌-◌, ◌*◌, List, [], ◌∷◌, ◌++◌, length, drop, get_or, true, false, arith}
use Rattle.std.specs.Prelude.{◌&&◌, ◌==◌, nat_le, Option, Some, None, Result, Ok, Err, if◌then◌else◌}
use Rattle.std.specs.List.{list_all}
use Rattle.std.specs.Str.{IsUtf8, is_utf8}
use Rattle.std.proofs.lemmas.Str.{is_utf8-from_IsUtf8, IsUtf8-from_is_utf8}
use Rattle.std.specs.Char.{is_ascii_digit, digit_value}
use Rattle.std.specs.Str.Parse.{digits_value_after}
use Rattle.std.proofs.lemmas.Bool.{and_right, eq-eqb, ne_eqb, false_from_ne_true, le-leb, lt-leb}
use Rattle.std.proofs.lemmas.List.{drop_all, drop_more, append_assoc, append-nil}
use Rattle.std.proofs.lemmas.Option.{none-some}
use Rattle.sql_lex.specs.declared.tokens.Token.{Token}
use Rattle.sql_lex.specs.declared.tokens.TokenKind.{TokenKind}
use Rattle.sql_lex.specs.declared.errors.LexError.{LexError}
use Rattle.sql_lex.specs.declared.errors.LexError.TheVariants as error
use Rattle.sql_lex.specs.Tokens.{given_tokens}
use Rattle.sql_lex.specs.Lexing.{number_of, grown_text, text_of, joined_tokens, tokens_behind, token_at, item_at, mark_token}

-- the number of digits that follow those of a number, within the limit
abbrev pub number_after : ℕ → List ℕ → Option ℕ
number_after value bytes = if list_all is_ascii_digit bytes && nat_le (digits_value_after 10 value bytes) 9223372036854775808 then Some (digits_value_after 10 value bytes) else None

-- digits that follow make a number no less
pub digits_grow : (value : ℕ) (bytes : List ℕ) → value ≤ digits_value_after 10 value bytes
digits_grow value [] = omega arith
digits_grow value (b ∷ bytes) = let more = digits_grow (value * 10 + digit_value b) bytes in omega arith

-- the loop over the digits begins
pub number_of-start : (bytes : List ℕ) → 1 ≤ length bytes → number_of bytes ≡ number_after 0 bytes
unfolding number_of
number_of-start bytes some = let one : nat_le 1 (length bytes) ≡ true = le-leb 1 (length bytes) some in rw one refl

-- no bytes are no number
pub number_of-none : (bytes : List ℕ) → length bytes ≡ 0 → number_of bytes ≡ None
unfolding number_of
number_of-none [] e = refl
number_of-none (b ∷ bytes) e = absurd (omega arith)

-- a digit more
pub number_after-digit : (value b : ℕ) (bytes : List ℕ) → is_ascii_digit b ≡ true → number_after value (b ∷ bytes) ≡ number_after (value * 10 + digit_value b) bytes
number_after-digit value b bytes e = rw e refl

-- a byte that is no digit
pub number_after-other : (value b : ℕ) (bytes : List ℕ) → is_ascii_digit b ≡ false → number_after value (b ∷ bytes) ≡ None
number_after-other value b bytes e = rw e refl

-- a number past the limit stays past it
pub number_after-large : (value : ℕ) (bytes : List ℕ) → 9223372036854775808 < value → number_after value bytes ≡ None
number_after-large value bytes h =
    let more = digits_grow value bytes in
    let large : nat_le (digits_value_after 10 value bytes) 9223372036854775808 ≡ false = lt-leb (digits_value_after 10 value bytes) 9223372036854775808 (omega arith) in
    rw (and_right (list_all is_ascii_digit bytes) (nat_le (digits_value_after 10 value bytes) 9223372036854775808) large) refl

-- the number at the end of the digits
pub number_after-end : (value : ℕ) → value ≤ 9223372036854775808 → number_after value [] ≡ Some value
number_after-end value h = let small : nat_le value 9223372036854775808 ≡ true = le-leb value 9223372036854775808 h in rw small refl

-- what stands in front of what stands in front
pub grown-grown : (front more : List ℕ) (m n : ℕ) (o : Option (List ℕ × ℕ)) → grown_text front m (grown_text more n o) ≡ grown_text (front ++ more) (m + n) o
grown-grown front more m n None = refl
grown-grown front more m n (Some (text, size)) = let a : m + (n + size) ≡ m + n + size = omega arith in rw (a, append_assoc front more text) refl

-- nothing in front
pub grown-none : (o : Option (List ℕ × ℕ)) → grown_text [] 0 o ≡ o
grown-none None = refl
grown-none (Some (text, size)) = let a : 0 + size ≡ size = omega arith in rw a refl

-- a byte of a text that is no quote, behind none
pub text_of-byte : (b : ℕ) (bytes : List ℕ) → (b == 39) ≡ false → text_of false (b ∷ bytes) ≡ grown_text (b ∷ []) 1 (text_of false bytes)
text_of-byte b bytes e = rw e refl

-- a first quote
pub text_of-quote : (b : ℕ) (bytes : List ℕ) → (b == 39) ≡ true → text_of false (b ∷ bytes) ≡ grown_text [] 1 (text_of true bytes)
text_of-quote b bytes e = rw e refl

-- a second quote
pub text_of-doubled : (b : ℕ) (bytes : List ℕ) → (b == 39) ≡ true → text_of true (b ∷ bytes) ≡ grown_text (39 ∷ []) 1 (text_of false bytes)
text_of-doubled b bytes e = rw e refl

-- the end behind a quote
pub text_of-closed : (b : ℕ) (bytes : List ℕ) → (b == 39) ≡ false → text_of true (b ∷ bytes) ≡ Some ([], 0)
text_of-closed b bytes e = rw e refl

-- what a text's bytes are
pub utf8_test : (text : List ℕ) → IsUtf8 text → is_utf8 text ≡ true
utf8_test text h = is_utf8-from_IsUtf8 text h

-- and what they are where they are no text
pub utf8_test_fails : (text : List ℕ) → (IsUtf8 text → ⊥) → is_utf8 text ≡ false
utf8_test_fails text h = false_from_ne_true (is_utf8 text) (λ t. h (IsUtf8-from_is_utf8 text t))

-- the steps of the loop over digits
pub ruleset number_steps = (number_of-start, number_of-none, number_after-digit, number_after-other, number_after-large, number_after-end, drop_more)

-- no token stands where no byte does
pub token_at-empty : (bytes : List ℕ) → length bytes ≡ 0 → token_at bytes ≡ None
unfolding token_at mark_token
token_at-empty [] e = refl
token_at-empty (b ∷ bytes) e = absurd (omega arith)

-- at the end of the bytes
pub ruleset at_end = (token_at-empty)

-- nor does an item
pub item_at-empty : item_at [] ≡ None
unfolding item_at
item_at-empty = rw (token_at-empty [] refl) refl

-- a byte of a text more
pub at_byte : (front bytes : List ℕ) (i : ℕ) → i < length bytes → get_or bytes i 0 ≢ 39
    → grown_text front i (text_of false (drop i bytes)) ≡ grown_text (front ++ get_or bytes i 0 ∷ []) (i + 1) (text_of false (drop (i + 1) bytes))
at_byte front bytes i within ne =
    let e : (get_or bytes i 0 == 39) ≡ false = ne_eqb (get_or bytes i 0) 39 ne in
    rw (drop_more bytes i 0 within, text_of-byte (get_or bytes i 0) (drop (i + 1) bytes) e) (grown-grown front (get_or bytes i 0 ∷ []) i 1 (text_of false (drop (i + 1) bytes)))

-- a first quote more
pub at_quote : (front bytes : List ℕ) (i : ℕ) → i < length bytes → get_or bytes i 0 ≡ 39
    → grown_text front i (text_of false (drop i bytes)) ≡ grown_text front (i + 1) (text_of true (drop (i + 1) bytes))
at_quote front bytes i within is =
    let e : (get_or bytes i 0 == 39) ≡ true = eq-eqb (get_or bytes i 0) 39 is in
    rw (drop_more bytes i 0 within, text_of-quote (get_or bytes i 0) (drop (i + 1) bytes) e)
    (grown-grown front [] i 1 (text_of true (drop (i + 1) bytes)) ∙ ap (λ (f : List ℕ). grown_text f (i + 1) (text_of true (drop (i + 1) bytes))) (append-nil front))

-- a second quote more
pub at_doubled : (front bytes : List ℕ) (i : ℕ) → i < length bytes → get_or bytes i 0 ≡ 39
    → grown_text front i (text_of true (drop i bytes)) ≡ grown_text (front ++ 39 ∷ []) (i + 1) (text_of false (drop (i + 1) bytes))
at_doubled front bytes i within is =
    let e : (get_or bytes i 0 == 39) ≡ true = eq-eqb (get_or bytes i 0) 39 is in
    rw (drop_more bytes i 0 within, text_of-doubled (get_or bytes i 0) (drop (i + 1) bytes) e) (grown-grown front (39 ∷ []) i 1 (text_of false (drop (i + 1) bytes)))

-- another byte behind a second quote ends a text
pub text-closed : (front bytes : List ℕ) (i : ℕ) → i < length bytes → get_or bytes i 0 ≢ 39
    → text_of false bytes ≡ grown_text front i (text_of true (drop i bytes)) → Some (front, i) ≡ text_of false bytes
text-closed front bytes i within ne is =
    let e : (get_or bytes i 0 == 39) ≡ false = ne_eqb (get_or bytes i 0) 39 ne in
    let all : i + 0 ≡ i = omega arith in
    let grown : grown_text front i (text_of true (drop i bytes)) ≡ Some (front, i) =
    rw (drop_more bytes i 0 within, text_of-closed (get_or bytes i 0) (drop (i + 1) bytes) e, append-nil front, all) refl in
    sym (is ∙ grown)

-- and so does the end of the bytes, where a quote was read last; else no text ends
pub text-ended : (front bytes : List ℕ) (i : ℕ) → length bytes ≤ i → i ≤ length bytes
    → text_of false bytes ≡ grown_text front i (text_of true (drop i bytes)) → Some (front, length bytes) ≡ text_of false bytes
text-ended front bytes i past within is =
    let all : i + 0 ≡ length bytes = omega arith in
    let grown : grown_text front i (text_of true (drop i bytes)) ≡ Some (front, length bytes) =
    rw (drop_all i bytes past, append-nil front, all) refl in
    sym (is ∙ grown)

pub text-open : (front bytes : List ℕ) (i : ℕ) → length bytes ≤ i
    → text_of false bytes ≡ grown_text front i (text_of false (drop i bytes)) → None ≡ text_of false bytes
text-open front bytes i past is =
    let grown : grown_text front i (text_of false (drop i bytes)) ≡ None = rw (drop_all i bytes past) refl in
    sym (is ∙ grown)

-- the ends of a text
pub ruleset text_steps = (grown-none, text_of-closed, drop_more, append-nil)

-- the steps of the loop over a text
pub ruleset text_places = (at_byte, at_quote, at_doubled)

-- tokens in front of tokens in front
pub joined-joined : (front more : List Token) (r : Result (List Token) LexError) → joined_tokens front (joined_tokens more r) ≡ joined_tokens (front ++ more) r
joined-joined front more (Err e) = refl
joined-joined front more (Ok others) = ap Ok (sym (append_assoc front more others))

-- no tokens in front
pub joined-none : (r : Result (List Token) LexError) → joined_tokens [] r ≡ r
joined-none (Err e) = refl
joined-none (Ok others) = refl

-- the tokens behind skipped bytes are those of the rest
pub tokens_behind-drop : (skipped offset : ℕ) (bytes : List ℕ) → tokens_behind skipped offset bytes ≡ tokens_behind 0 (offset + skipped) (drop skipped bytes)
tokens_behind-drop zero offset bytes = let same : offset + 0 ≡ offset = omega arith in rw same refl
tokens_behind-drop (suc skipped) offset [] = refl
tokens_behind-drop (suc skipped) offset (b ∷ bytes) = let same : offset + suc skipped ≡ offset + 1 + skipped = omega arith in rw same (tokens_behind-drop skipped (offset + 1) bytes)

-- an item, and what stands behind it
pub tokens_behind-item : (offset : ℕ) (bytes : List ℕ) (token : Option TokenKind) (size : ℕ) → item_at bytes ≡ Some (token, size) → 1 ≤ size
    → tokens_behind 0 offset bytes ≡ joined_tokens (given_tokens token offset (offset + size)) (tokens_behind 0 (offset + size) (drop size bytes))
tokens_behind-item offset [] token size h some = absurd (none-some (token, size) (sym item_at-empty ∙ h))
tokens_behind-item offset (b ∷ bytes) token zero h some = absurd (omega arith)
tokens_behind-item offset (b ∷ bytes) token (suc size) h some =
    let minus : suc size - 1 ≡ size = omega arith in
    let place : offset + 1 + size ≡ offset + suc size = omega arith in
    rw (h, minus, tokens_behind-drop size (offset + 1) bytes, place) refl

-- no item stands there
pub tokens_behind-none : (offset : ℕ) (bytes : List ℕ) → (bytes ≡ [] → ⊥) → item_at bytes ≡ None → tokens_behind 0 offset bytes ≡ Err (error.At offset)
tokens_behind-none offset [] some h = absurd (some refl)
tokens_behind-none offset (b ∷ bytes) some h = rw h refl

-- the steps of the loop over items
pub ruleset token_steps = (joined-joined, joined-none, tokens_behind-item, tokens_behind-none)

-- an item more
pub at_item : (said : Result (List Token) LexError) (tokens more : List Token) (bytes behind : List ℕ) (token : Option TokenKind) (size offset next start end : ℕ)
    → said ≡ joined_tokens tokens (tokens_behind 0 offset bytes) → item_at bytes ≡ Some (token, size) → 1 ≤ size → behind ≡ drop size bytes → next ≡ offset + size
    → start ≡ offset → end ≡ next → more ≡ tokens ++ given_tokens token start end → said ≡ joined_tokens more (tokens_behind 0 next behind)
at_item said tokens more bytes behind token size offset next start end e h some left place here there m =
    e ∙ rw (m, left, here, there, place, tokens_behind-item offset bytes token size h some) (joined-joined tokens (given_tokens token offset (offset + size)) (tokens_behind 0 (offset + size) (drop size bytes)))
