-- A word may be a name.
use Rattle.std.proofs.Common.{◌≡◌, refl, ℕ, suc, zero, ◌<◌, List, [], ◌∷◌, length, get_or, true, arith}
use Rattle.std.specs.Prelude.{◌&&◌, nat_le}
use Rattle.std.specs.List.{list_all}
use Rattle.std.proofs.lemmas.Str.{is_utf8-from_IsUtf8, IsUtf8-from_ascii}
use Rattle.std.proofs.lemmas.Bool.{and_parts, and_from, le-leb}
use Rattle.std.proofs.lemmas.Bool.Decides.{nat_tests}
use Rattle.rpt_base.specs.Names.{is_name, is_name_byte}
use Rattle.sql_lex.specs.Tokens.{begins_word, is_word_byte, is_word}

-- a byte of a word may stand in a name
name_byte : (b : ℕ) → is_word_byte b ≡ true → is_name_byte b ≡ true
name_byte b h = grind (arith, nat_tests)

-- and so may all of them
name_bytes : (bytes : List ℕ) → list_all is_word_byte bytes ≡ true → list_all is_name_byte bytes ≡ true
name_bytes [] h = refl
name_bytes (b ∷ bytes) h =
    let both = and_parts (is_word_byte b) (list_all is_word_byte bytes) h in
    and_from _ _ (name_byte b both.0) (name_bytes bytes both.1)

-- a word byte is ASCII
ascii_byte : (b : ℕ) → is_word_byte b ≡ true → b < 128
ascii_byte b h = grind (arith, nat_tests)

-- so are all bytes of a word
ascii_bytes : (bytes : List ℕ) → list_all is_word_byte bytes ≡ true → (i : ℕ) → get_or bytes i 0 < 128
ascii_bytes [] h i = omega arith
ascii_bytes (b ∷ bytes) h zero = ascii_byte b (and_parts (is_word_byte b) (list_all is_word_byte bytes) h).0
ascii_bytes (b ∷ bytes) h (suc i) = ascii_bytes bytes (and_parts (is_word_byte b) (list_all is_word_byte bytes) h).1 i

-- a word may be a name
pub word_name : (bytes : List ℕ) → is_word bytes ≡ true → is_name bytes ≡ true
word_name [] h = h
word_name (b ∷ bytes) h =
    let run = b ∷ bytes in
    let all = and_parts (begins_word b) (list_all is_word_byte run && nat_le (length run) 63) h in
    let rest = and_parts (list_all is_word_byte run) (nat_le (length run) 63) all.1 in
    let one : nat_le 1 (length run) ≡ true = le-leb 1 (length run) (omega arith) in
    and_from _ _ one (and_from _ _ rest.1 (and_from _ _ (name_bytes run rest.0) (is_utf8-from_IsUtf8 run (IsUtf8-from_ascii run (ascii_bytes run rest.0)))))
