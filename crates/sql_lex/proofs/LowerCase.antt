-- Lower case of ASCII letters leaves words words and texts UTF-8.
use Rattle.std.proofs.Common.{◌≡◌, ◌∙◌, ap, sym, subst, refl, ℕ, ◌≤◌, ◌+◌, ◌/◌, List, [], ◌∷◌, length, map, true, false, ltb, arith, inl, inr}
use Rattle.std.specs.Prelude.{◌&&◌, nat_le}
use Rattle.std.specs.List.{list_all}
use Rattle.std.specs.Char.{to_ascii_lowercase}
use Rattle.std.specs.Str.{IsUtf8, str_to_ascii_lowercase}
use Rattle.std.proofs.Math.Utf8.{scalar, scalars, next, encode, encodes, low_scalar}
use Rattle.std.proofs.lemmas.Bool.{false≢true, cases_Bool, cases_lt, and_parts, and_from, le-ltb}
use Rattle.std.proofs.lemmas.Bool.Decides.{nat_tests}
use Rattle.std.proofs.lemmas.List.{length-map, map-append}
use Rattle.std.proofs.lemmas.Str.{encode_ascii}
use Rattle.std.proofs.lemmas.Str.Ascii.{lowercase_ascii, lowercase_is}
use Rattle.sql_lex.specs.Tokens.{begins_word, is_word_byte, is_word}

-- a byte that may stand in a word may do so in lower case
begins-lower : (b : ℕ) → begins_word b ≡ true → begins_word (to_ascii_lowercase b) ≡ true
begins-lower b h = grind (arith, nat_tests)

byte-lower : (b : ℕ) → is_word_byte b ≡ true → is_word_byte (to_ascii_lowercase b) ≡ true
byte-lower b h = grind (arith, nat_tests)

bytes-lower : (bytes : List ℕ) → list_all is_word_byte bytes ≡ true → list_all is_word_byte (map to_ascii_lowercase bytes) ≡ true
bytes-lower [] h = refl
bytes-lower (b ∷ bytes) h =
    let both = and_parts (is_word_byte b) (list_all is_word_byte bytes) h in
    and_from (is_word_byte (to_ascii_lowercase b)) (list_all is_word_byte (map to_ascii_lowercase bytes)) (byte-lower b both.0) (bytes-lower bytes both.1)

-- a word in lower case is a word
pub word-lower : (bytes : List ℕ) → is_word bytes ≡ true → is_word (str_to_ascii_lowercase bytes) ≡ true
word-lower [] h = absurd (false≢true h)
word-lower (b ∷ bytes) h =
    let run = b ∷ bytes in
    let low = map to_ascii_lowercase run in
    let all = and_parts (begins_word b) (list_all is_word_byte run && nat_le (length run) 63) h in
    let rest = and_parts (list_all is_word_byte run) (nat_le (length run) 63) all.1 in
    let long : length low ≡ length run = length-map run to_ascii_lowercase in
    let P : ℕ → Type 0 = λ n. nat_le n 63 ≡ true in
    and_from (begins_word (to_ascii_lowercase b)) (list_all is_word_byte low && nat_le (length low) 63) (begins-lower b all.0)
    (and_from (list_all is_word_byte low) (nat_le (length low) 63) (bytes-lower run rest.0) (subst P (sym long) rest.1))

-- bytes past ASCII stay
stays : (b : ℕ) → 128 ≤ b → to_ascii_lowercase b ≡ b
stays b past = (lowercase_is b).2 (omega arith)

stay_two : (a b : ℕ) → 128 ≤ a → 128 ≤ b → map to_ascii_lowercase (a ∷ b ∷ []) ≡ a ∷ b ∷ []
stay_two a b p q = rw (stays a p, stays b q) refl

stay_three : (a b c : ℕ) → 128 ≤ a → 128 ≤ b → 128 ≤ c → map to_ascii_lowercase (a ∷ b ∷ c ∷ []) ≡ a ∷ b ∷ c ∷ []
stay_three a b c p q r = rw (stays a p, stay_two b c q r) refl

stay_four : (a b c d : ℕ) → 128 ≤ a → 128 ≤ b → 128 ≤ c → 128 ≤ d → map to_ascii_lowercase (a ∷ b ∷ c ∷ d ∷ []) ≡ a ∷ b ∷ c ∷ d ∷ []
stay_four a b c d p q r s = rw (stays a p, stay_three b c d q r s) refl

-- the bytes of a character past ASCII stay
encode-stays : (c : ℕ) → 128 ≤ c → map to_ascii_lowercase (encode c) ≡ encode c
unfolding encode
encode-stays c past =
    let first : ltb c 128 ≡ false = le-ltb c 128 past in
    elim (cases_Bool (ltb c 2048)) [
      | inl e ↦ rw (first, e) (stay_two (192 + c / 64) (next c) (omega arith) (omega arith))
      | inr e ↦ elim (cases_Bool (ltb c 65536)) [
        | inl f ↦ rw (first, e, f) (stay_three (224 + c / 4096) (next (c / 64)) (next c) (omega arith) (omega arith) (omega arith))
        | inr f ↦ rw (first, e, f) (stay_four (240 + c / 262144) (next (c / 4096)) (next (c / 64)) (next c) (omega arith) (omega arith) (omega arith) (omega arith))
      ]
    ]

-- a character in lower case
encode-lower : (c : ℕ) → map to_ascii_lowercase (encode c) ≡ encode (to_ascii_lowercase c)
encode-lower c =
    elim (cases_lt c 128) [
      | inl low ↦ ap (map to_ascii_lowercase) (encode_ascii c low) ∙ sym (encode_ascii (to_ascii_lowercase c) (lowercase_ascii c low))
      | inr past ↦ encode-stays c past ∙ ap encode (sym (stays c past))
    ]

-- is a character
scalar-lower : (c : ℕ) → scalar c ≡ true → scalar (to_ascii_lowercase c) ≡ true
scalar-lower c h =
    elim (cases_lt c 128) [
      | inl low ↦ (let small = lowercase_ascii c low in low_scalar (to_ascii_lowercase c) (omega arith))
      | inr past ↦ ap scalar (stays c past) ∙ h
    ]

scalars-lower : (cs : List ℕ) → scalars cs ≡ true → scalars (map to_ascii_lowercase cs) ≡ true
scalars-lower [] h = refl
scalars-lower (c ∷ cs) h =
    let both = and_parts (scalar c) (scalars cs) h in
    and_from (scalar (to_ascii_lowercase c)) (scalars (map to_ascii_lowercase cs)) (scalar-lower c both.0) (scalars-lower cs both.1)

-- characters in lower case
encodes-lower : (cs : List ℕ) → encodes (map to_ascii_lowercase cs) ≡ map to_ascii_lowercase (encodes cs)
encodes-lower [] = refl
encodes-lower (c ∷ cs) = rw (← encode-lower c, encodes-lower cs) (sym (map-append to_ascii_lowercase (encode c) (encodes cs)))

-- a text in lower case is a text
pub utf8-lower : (bytes : List ℕ) → IsUtf8 bytes → IsUtf8 (str_to_ascii_lowercase bytes)
utf8-lower bytes (cs, (are, is)) = (map to_ascii_lowercase cs, (scalars-lower cs are, encodes-lower cs ∙ ap (map to_ascii_lowercase) is))
