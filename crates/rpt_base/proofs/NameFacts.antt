-- Lower-casing a name's bytes leaves a name.
use Rattle.std.proofs.Common.{◌≡◌, sym, subst, refl, ℕ, ◌<◌, ◌≤◌, List, [], ◌∷◌, length, map, true, false, arith}
use Rattle.std.specs.Prelude.{◌&&◌, nat_le, IsTrue, Result, Ok, Err, MatchResult}
use Rattle.std.specs.Result.{is_ok}
use Rattle.std.specs.List.{list_all}
use Rattle.std.specs.Char.{to_ascii_lowercase}
use Rattle.std.specs.Str.{IsUtf8, is_utf8, str_to_ascii_lowercase}
use Rattle.std.proofs.lemmas.Bool.{and_parts, and_from, false_from_ne_true, le-leb, lt-leb}
use Rattle.std.proofs.lemmas.Bool.Decides.{nat_tests}
use Rattle.std.proofs.lemmas.Grind.{common_steps}
use Rattle.std.proofs.lemmas.Str.{is_utf8-from_IsUtf8, IsUtf8-from_is_utf8}
use Rattle.rpt_base.specs.Names.{is_name, is_name_byte}

-- a name is UTF-8
pub is_name-utf8 : (bytes : List ℕ) → IsTrue (is_name bytes) → IsUtf8 bytes
is_name-utf8 bytes h =
    let all = and_parts (nat_le 1 (length bytes)) (nat_le (length bytes) 63 && (list_all is_name_byte bytes && is_utf8 bytes)) h in
    let rest = and_parts (nat_le (length bytes) 63) (list_all is_name_byte bytes && is_utf8 bytes) all.1 in
    IsUtf8-from_is_utf8 bytes (and_parts (list_all is_name_byte bytes) (is_utf8 bytes) rest.1).1

-- a byte's lower case may stand where the byte may
byte-lower : (b : ℕ) → is_name_byte b ≡ true → is_name_byte (to_ascii_lowercase b) ≡ true
byte-lower b h = grind (arith, nat_tests)

bytes-lower : (bytes : List ℕ) → list_all is_name_byte bytes ≡ true → list_all is_name_byte (map to_ascii_lowercase bytes) ≡ true
bytes-lower [] h = refl
bytes-lower (b ∷ bytes) h =
    let both = and_parts (is_name_byte b) (list_all is_name_byte bytes) h in
    and_from _ _ (byte-lower b both.0) (bytes-lower bytes both.1)

-- lower-casing once is enough
twice : (b : ℕ) → to_ascii_lowercase (to_ascii_lowercase b) ≡ to_ascii_lowercase b
twice b = grind (arith, nat_tests)

pub lower-lower : (bytes : List ℕ) → str_to_ascii_lowercase (str_to_ascii_lowercase bytes) ≡ str_to_ascii_lowercase bytes
lower-lower [] = refl
lower-lower (b ∷ bytes) = rw (twice b, lower-lower bytes) refl

length-lower : (bytes : List ℕ) → length (str_to_ascii_lowercase bytes) ≡ length bytes
length-lower bytes = grind (arith, common_steps)

-- the lower case of a name is a name
is_name-lower : (bytes : List ℕ) → IsTrue (is_name bytes) → IsUtf8 (str_to_ascii_lowercase bytes) → IsTrue (is_name (str_to_ascii_lowercase bytes))
is_name-lower bytes h u =
    let all = and_parts (nat_le 1 (length bytes)) (nat_le (length bytes) 63 && (list_all is_name_byte bytes && is_utf8 bytes)) h in
    let rest = and_parts (nat_le (length bytes) 63) (list_all is_name_byte bytes && is_utf8 bytes) all.1 in
    let plain = and_parts (list_all is_name_byte bytes) (is_utf8 bytes) rest.1 in
    and_from _ _ (rw length-lower all.0) (and_from _ _ (rw length-lower rest.0) (and_from _ _ (bytes-lower bytes plain.0) (is_utf8-from_IsUtf8 _ u)))

-- the test that `from_utf8` makes
pub is_utf8-cases : {S E : Type 0} (P : S → Type 0) (Q : E → Type 0) (bytes : List ℕ) (r : Result S E)
    → MatchResult r (λ s. P s × IsUtf8 bytes) (λ e. ¬ IsUtf8 bytes × Q e) → is_ok r ≡ is_utf8 bytes
is_utf8-cases P Q bytes (Ok s) h = sym (is_utf8-from_IsUtf8 bytes h.1)
is_utf8-cases P Q bytes (Err e) h = sym (false_from_ne_true _ (λ t. h.0 (IsUtf8-from_is_utf8 bytes t)))

-- what is left to test where the length fits
pub is_name-sized : (bytes : List ℕ) → 1 ≤ length bytes → length bytes ≤ 63 → is_name bytes ≡ (list_all is_name_byte bytes && is_utf8 bytes)
is_name-sized bytes some short =
    let one : nat_le 1 (length bytes) ≡ true = le-leb 1 (length bytes) some in
    let most : nat_le (length bytes) 63 ≡ true = le-leb (length bytes) 63 short in
    rw (one, most) refl

pub is_name-empty : (bytes : List ℕ) → length bytes ≡ 0 → is_name bytes ≡ false
is_name-empty bytes e = let zero : nat_le 1 (length bytes) ≡ false = lt-leb 1 (length bytes) (omega arith) in rw zero refl

pub is_name-long : (bytes : List ℕ) → 63 < length bytes → is_name bytes ≡ false
is_name-long bytes e =
    let some : nat_le 1 (length bytes) ≡ true = le-leb 1 (length bytes) (omega arith) in
    let more : nat_le (length bytes) 63 ≡ false = lt-leb (length bytes) 63 e in
    rw (some, more) refl

-- a lower-cased name is a name, and is in lower case
pub is_name-of_lower : (bytes text : List ℕ) → text ≡ str_to_ascii_lowercase bytes → IsTrue (is_name bytes) → IsUtf8 text
    → IsTrue (is_name text) × (str_to_ascii_lowercase text ≡ text)
is_name-of_lower bytes text e h u =
    let P : List ℕ → Type 0 = λ t. IsUtf8 t → IsTrue (is_name t) × (str_to_ascii_lowercase t ≡ t) in
    subst P (sym e) (λ v. (is_name-lower bytes h v, lower-lower bytes)) u
