-- The printed text is lexed to its pieces.
use Rattle.std.proofs.Common.{◌≡◌, ◌∙◌, ap, refl, subst, ℕ, suc, ◌≤◌, ◌<◌, ◌+◌, ◌-◌, List, [], ◌∷◌, ◌++◌, length, drop, append_assoc, Bool, true, false, arith, Result, Ok, Option, Some, None, IsTrue, inl, inr}
use Rattle.std.specs.Prelude.{◌&&◌, ◌==◌, not, nat_eq, nat_le, decimal}
use Rattle.std.specs.List.{list_all, take_while, starts_with}
use Rattle.std.specs.Char.{is_ascii_digit, digit_value}
use Rattle.std.specs.Str.{IsUtf8, is_utf8, str_to_ascii_lowercase}
use Rattle.std.specs.Str.Parse.{AllDigits, digits_value}
use Rattle.std.proofs.lemmas.Bool.{and_parts, and_from, le-leb, cases_Bool}
use Rattle.std.proofs.lemmas.Bool.Decides.{nat_tests}
use Rattle.std.proofs.lemmas.Fmt.{decimal_is_IsNumeral}
use Rattle.std.proofs.lemmas.Str.{is_utf8-from_IsUtf8}
use Rattle.std.proofs.lemmas.List.{length-append}
use Rattle.rpt_base.specs.Names.{is_name}
use Rattle.sql_lex.specs.declared.errors.LexError.{LexError}
use Rattle.sql_lex.specs.declared.tokens.Mark.TheVariants as m
use Rattle.sql_lex.specs.declared.tokens.Token.{Token}
use Rattle.sql_lex.specs.declared.tokens.TokenKind.{TokenKind}
use Rattle.sql_lex.specs.declared.tokens.TokenKind.TheVariants as t
use Rattle.sql_lex.specs.Tokens.{begins_word, is_word_byte, is_word, doubled_quotes, given_tokens}
use Rattle.sql_lex.specs.Lexing.{before, number_of, run_token, sized_token, run_at, text_of, quoted_token, mark_token, token_at, as_item, item_at, joined_tokens, tokens_behind}
use Rattle.sql_lex.proofs.BytesRuns.{run_more, run_end}
use Rattle.sql_lex.proofs.Standing.{digit_begins, digits_are_word_bytes, word_byte_not_blank, no_quotes, name_bytes}
use Rattle.sql_grammar.specs.Kinds.{is_name_in_lower_case, is_not_capital}
use Rattle.sql_grammar.proofs.KindFacts.{lower_bytes}
use Rattle.sql_print.specs.Pieces.{Piece, word, name, number, magnitude, text, mark, mark_text, spelling, shown_text, IsPiece, ArePieces}
use Rattle.sql_print.specs.Writes.{token_of, Writes}

-- ---- runs

-- bytes that all pass, with one that fails behind them, are a run
run_whole : (p : ℕ → Bool) (xs : List ℕ) (y : ℕ) (rest : List ℕ) → list_all p xs ≡ true → p y ≡ false → take_while p (xs ++ y ∷ rest) ≡ xs
run_whole p [] y rest all end = run_end p y rest end
run_whole p (x ∷ xs) y rest all end =
    let both = and_parts (p x) (list_all p xs) all in
    run_more p x (xs ++ y ∷ rest) both.0 ∙ ap (λ (ys : List ℕ). x ∷ ys) (run_whole p xs y rest both.1 end)

not_minus : (b : ℕ) (bytes : List ℕ) → is_word_byte b ≡ true → starts_with nat_eq (b ∷ bytes) (45 ∷ 45 ∷ []) ≡ false
not_minus b bytes h = let e : nat_eq 45 b ≡ false = grind (arith, nat_tests) in rw e refl

-- a run of word bytes before a space
item_run : (b : ℕ) (bs rest : List ℕ) → list_all is_word_byte (b ∷ bs) ≡ true → item_at (b ∷ (bs ++ 32 ∷ rest)) ≡ as_item (sized_token (b ∷ bs) (run_token (b ∷ bs)))
unfolding item_at token_at run_at
item_run b bs rest all =
    let first : is_word_byte b ≡ true = (and_parts (is_word_byte b) (list_all is_word_byte bs) all).0 in
    rw (run_whole is_word_byte (b ∷ bs) 32 rest all refl, word_byte_not_blank b first, not_minus b (bs ++ 32 ∷ rest) first, first) refl

word_item : (w : List ℕ) → IsTrue (is_word w) → (rest : List ℕ) → item_at (w ++ 32 ∷ rest) ≡ Some (Some (t.Word (str_to_ascii_lowercase w)), length w)
unfolding run_token
word_item [] h rest = absurd cc
word_item (b ∷ bs) h rest =
    let parts = and_parts (begins_word b) (list_all is_word_byte (b ∷ bs) && nat_le (length (b ∷ bs)) 63) h in
    let more = and_parts (list_all is_word_byte (b ∷ bs)) (nat_le (length (b ∷ bs)) 63) parts.1 in
    item_run b bs rest more.0 ∙ (let e : is_word (b ∷ bs) ≡ true = h in rw e refl)

-- ---- numbers

digit : (c : ℕ) → digit_value c < 10 → is_ascii_digit c ≡ true
digit c h = grind (arith, nat_tests)

digits : (ds : List ℕ) → AllDigits 10 ds → list_all is_ascii_digit ds ≡ true
digits [] h = refl
digits (c ∷ cs) h = and_from (is_ascii_digit c) (list_all is_ascii_digit cs) (digit c h.0) (digits cs h.1)

digits_item : (ds rest : List ℕ) (n : ℕ) → 0 < length ds → list_all is_ascii_digit ds ≡ true → digits_value 10 ds ≡ n → n ≤ 9223372036854775808
    → item_at (ds ++ 32 ∷ rest) ≡ Some (Some (t.Number n), length ds)
unfolding run_token number_of
digits_item [] rest n some all value most = absurd (omega arith)
digits_item (c ∷ cs) rest n some all value most =
    let first : is_ascii_digit c ≡ true = (and_parts (is_ascii_digit c) (list_all is_ascii_digit cs) all).0 in
    let some : nat_le 1 (length (c ∷ cs)) ≡ true = le-leb 1 (length (c ∷ cs)) (omega arith) in
    let fits : nat_le (digits_value 10 (c ∷ cs)) 9223372036854775808 ≡ true = le-leb (digits_value 10 (c ∷ cs)) 9223372036854775808 (omega arith) in
    item_run c cs rest (digits_are_word_bytes (c ∷ cs) all) ∙ rw (digit_begins c first, some, all, fits, value) refl

number_item : (n : ℕ) → n ≤ 9223372036854775808 → (rest : List ℕ) → item_at (decimal n ++ 32 ∷ rest) ≡ Some (Some (t.Number n), length (decimal n))
number_item n h rest =
    let d = decimal_is_IsNumeral n (omega arith) in
    digits_item (decimal n) rest n d.0.0 (digits (decimal n) d.0.1) d.1 h

-- ---- names

drop_front : (xs ys : List ℕ) → drop (length xs) (xs ++ ys) ≡ ys
drop_front [] ys = refl
drop_front (x ∷ xs) ys = drop_front xs ys

name_item : (n : List ℕ) → IsTrue (is_name_in_lower_case n) → (rest : List ℕ) → item_at ((34 ∷ (n ++ 34 ∷ [])) ++ 32 ∷ rest) ≡ Some (Some (t.Quoted n), length (34 ∷ (n ++ 34 ∷ [])))
unfolding item_at token_at quoted_token
name_item n h rest =
    let both = and_parts (is_name n) (list_all is_not_capital n) h in
    let is : is_name n ≡ true = both.0 in
    let front : before 34 (n ++ 34 ∷ 32 ∷ rest) ≡ n = run_whole (λ b. not (b == 34)) n 34 (32 ∷ rest) (no_quotes n (name_bytes n both.0)) refl in
    let size : length n + 2 ≡ length (34 ∷ (n ++ 34 ∷ [])) = omega (arith, length-append n (34 ∷ [])) in
    rw (append_assoc n (34 ∷ []) (32 ∷ rest), front, drop_front n (34 ∷ 32 ∷ rest), is, lower_bytes n both.1, size) refl

-- ---- texts

abbrev IsText : List ℕ → List ℕ → Type 0
IsText written rest = text_of false (doubled_quotes written ++ 39 ∷ 32 ∷ rest) ≡ Some (written, length (doubled_quotes written) + 1)

quote_text : (written rest : List ℕ) → IsText written rest → IsText (39 ∷ written) rest
quote_text written rest h = let size : 1 + (1 + (length (doubled_quotes written) + 1)) ≡ suc (suc (length (doubled_quotes written))) + 1 = omega arith in rw (h, size) refl

text_end : (written rest : List ℕ) → IsText written rest
text_end [] rest = refl
text_end (b ∷ written) rest = elim (cases_Bool (b == 39)) [
  | inl e ↦ (let same : 39 ≡ b = grind (arith, nat_tests) in subst (λ (c : ℕ). IsText (c ∷ written) rest) same (quote_text written rest (text_end written rest)))
  | inr e ↦ (let size : 1 + (length (doubled_quotes written) + 1) ≡ suc (length (doubled_quotes written)) + 1 = omega arith in rw (e, e, text_end written rest, size) refl)
]

text_item : (written : List ℕ) → IsUtf8 written → (rest : List ℕ) → item_at ((39 ∷ (doubled_quotes written ++ 39 ∷ [])) ++ 32 ∷ rest) ≡ Some (Some (t.Text written), length (39 ∷ (doubled_quotes written ++ 39 ∷ [])))
unfolding item_at token_at
text_item written h rest =
    let utf8 : is_utf8 written ≡ true = is_utf8-from_IsUtf8 written h in
    let size : 1 + (length (doubled_quotes written) + 1) ≡ length (39 ∷ (doubled_quotes written ++ 39 ∷ [])) = omega (arith, length-append (doubled_quotes written) (39 ∷ [])) in
    rw (append_assoc (doubled_quotes written) (39 ∷ []) (32 ∷ rest), text_end written rest, utf8, size) refl

-- ---- each piece

mark_item : (piece : _) (rest : List ℕ) → item_at (mark_text piece ++ 32 ∷ rest) ≡ Some (Some (t.Mark piece), length (mark_text piece))
unfolding item_at token_at mark_token
mark_item m.LeftParen rest = refl
mark_item m.RightParen rest = refl
mark_item m.Comma rest = refl
mark_item m.Semicolon rest = refl
mark_item m.Dot rest = refl
mark_item m.Star rest = refl
mark_item m.Minus rest = refl
mark_item m.Eq rest = refl
mark_item m.Ne rest = refl
mark_item m.Lt rest = refl
mark_item m.Le rest = refl
mark_item m.Gt rest = refl
mark_item m.Ge rest = refl

item_of : (piece : Piece) → IsPiece piece → (rest : List ℕ) → item_at (spelling piece ++ 32 ∷ rest) ≡ Some (Some (token_of piece), length (spelling piece))
item_of (word w) h rest = word_item w h rest
item_of (name n) h rest = name_item n h rest
item_of (number n) h rest = number_item n (omega arith) rest
item_of (magnitude n) h rest = number_item n h rest
item_of (text written) h rest = text_item written h rest
item_of (mark written) h rest = mark_item written rest

-- a piece has a byte
has_byte : (piece : Piece) → IsPiece piece → 0 < length (spelling piece)
has_byte (word []) h = absurd cc
has_byte (word (b ∷ bs)) h = omega arith
has_byte (name n) h = omega arith
has_byte (number n) h = (decimal_is_IsNumeral n (omega arith)).0.0
has_byte (magnitude n) h = (decimal_is_IsNumeral n (omega arith)).0.0
has_byte (text written) h = omega arith
has_byte (mark m.LeftParen) h = omega arith
has_byte (mark m.RightParen) h = omega arith
has_byte (mark m.Comma) h = omega arith
has_byte (mark m.Semicolon) h = omega arith
has_byte (mark m.Dot) h = omega arith
has_byte (mark m.Star) h = omega arith
has_byte (mark m.Minus) h = omega arith
has_byte (mark m.Eq) h = omega arith
has_byte (mark m.Ne) h = omega arith
has_byte (mark m.Lt) h = omega arith
has_byte (mark m.Le) h = omega arith
has_byte (mark m.Gt) h = omega arith
has_byte (mark m.Ge) h = omega arith

-- ---- all pieces

skips : (xs ys : List ℕ) (at : ℕ) → tokens_behind (length xs) at (xs ++ ys) ≡ tokens_behind 0 (at + length xs) ys
skips [] ys at = ap (λ (k : ℕ). tokens_behind 0 k ys) (omega arith)
skips (x ∷ xs) ys at = skips xs ys (at + 1) ∙ ap (λ (k : ℕ). tokens_behind 0 k ys) (omega arith)

-- the item at the front, and then the rest
next : (b : ℕ) (bs ys : List ℕ) (at : ℕ) (kind : Option TokenKind) → item_at (b ∷ (bs ++ ys)) ≡ Some (kind, length (b ∷ bs))
    → tokens_behind 0 at (b ∷ (bs ++ ys)) ≡ joined_tokens (given_tokens kind at (at + length (b ∷ bs))) (tokens_behind 0 (at + length (b ∷ bs)) ys)
next b bs ys at kind e =
    let less : length (b ∷ bs) - 1 ≡ length bs = omega arith in
    rw (e, less) (ap (λ (r : Result (List Token) LexError). joined_tokens (given_tokens kind at (at + length (b ∷ bs))) r) (skips bs ys (at + 1) ∙ ap (λ (k : ℕ). tokens_behind 0 k ys) (omega arith)))

next_of : (s ys : List ℕ) (at : ℕ) (kind : Option TokenKind) → 0 < length s → item_at (s ++ ys) ≡ Some (kind, length s)
    → tokens_behind 0 at (s ++ ys) ≡ joined_tokens (given_tokens kind at (at + length s)) (tokens_behind 0 (at + length s) ys)
next_of [] ys at kind some e = absurd (omega arith)
next_of (b ∷ bs) ys at kind some e = next b bs ys at kind e

blank : (rest : List ℕ) → item_at (32 ∷ rest) ≡ Some (None, 1)
unfolding item_at
blank rest = refl

semicolon : item_at (59 ∷ []) ≡ Some (Some (t.Mark m.Semicolon), 1)
unfolding item_at token_at mark_token
semicolon = refl

pub record Read (pieces : List Piece) (at : ℕ) (bytes : List ℕ) : Type 0 where
  pub tokens : List Token
  pub reads : tokens_behind 0 at bytes ≡ Ok tokens
  pub writes : Writes pieces tokens

pub read_all : (pieces : List Piece) → ArePieces pieces → (at : ℕ) → Read pieces at (shown_text pieces)
read_all [] h at = record {
  tokens = record { kind = t.Mark m.Semicolon; start = at; end = at + 1 } ∷ [];
  reads = rw semicolon refl;
  writes = (record { kind = t.Mark m.Semicolon; start = at; end = at + 1 }, refl, refl);
}
read_all (piece ∷ pieces) h at =
    let end = at + length (spelling piece) in
    let more = read_all pieces h.1 (end + 1) in
    record {
      tokens = record { kind = token_of piece; start = at; end = end } ∷ more.tokens;
      reads = next_of (spelling piece) (32 ∷ shown_text pieces) at (Some (token_of piece)) (has_byte piece h.0) (item_of piece h.0 (shown_text pieces))
          ∙ ap (λ (r : Result (List Token) LexError). joined_tokens (given_tokens (Some (token_of piece)) at end) r)
          (next 32 [] (shown_text pieces) end None (blank (shown_text pieces)) ∙ ap (λ (r : Result (List Token) LexError). joined_tokens [] r) more.reads);
      writes = (refl, more.writes);
    }
