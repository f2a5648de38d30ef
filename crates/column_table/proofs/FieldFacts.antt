-- The text of a value is a field that has the value.
use Rattle.std.proofs.Common.{◌≡◌, ◌<◌, ◌≤◌, ◌^◌, ◌-◌, ℕ, zero, suc, Bool, true, false, cond, List, length, refl, ◌∙◌, arith, ℤ, pos, neg_ℤ, IsTrue}
use Rattle.std.specs.Prelude.{◌&&◌, nat_le, nat_lt, FitsSigned, Err, Ok, Result, Some, if◌then◌else◌}
use Rattle.std.specs.Fmt.{signed_decimal}
use Rattle.std.specs.Int.{w64}
use Rattle.std.specs.Str.{all_ascii_digits}
use Rattle.std.specs.Str.Parse.{AllDigits, IsNumeral, ParsesSigned, digits_value, signed_digits_value, starts_with_minus, without_leading_sign}
use Rattle.std.proofs.lemmas.Bool.{and_from, and_parts, both_ways, le-leb, leb-true}
use Rattle.std.proofs.lemmas.Fmt.{parse-signed_decimal}
use Rattle.std.proofs.lemmas.Str.{is_utf8-from_IsUtf8}
use Rattle.std.proofs.lemmas.Str.Parse.{numerals_by_value, tells_all_ascii_digits}
use Rattle.rpt_base.specs.declared.values.ColumnType.{ColumnType}
use Rattle.rpt_base.specs.declared.values.ColumnType.TheVariants as kind
use Rattle.rpt_base.specs.declared.values.Value.{Value}
use Rattle.rpt_base.specs.declared.values.Value.TheVariants as value
use Rattle.column_table.specs.FieldText.{CanBeHeld, field_text, field_value, is_int}
use Rattle.column_table.specs.Table.{has_type}

-- the largest value of a number with a minus, and without
abbrev most : Bool → ℕ
most minus = if minus then 2 ^ 63 else (2 ^ 63 - 1)

-- a signed number that fits is at most that
most-from : (minus : Bool) (n : ℕ) → FitsSigned w64 (cond minus (neg_ℤ (pos n)) (pos n)) → n ≤ most minus
most-from true zero h = omega arith
most-from true (suc n) h = h.sfits
most-from false n h = omega (arith, h.sfits)

-- and one that is at most that fits
fits-from : (minus : Bool) (n : ℕ) → n ≤ most minus → FitsSigned w64 (cond minus (neg_ℤ (pos n)) (pos n))
fits-from true zero h = record { sfits = omega arith }
fits-from true (suc n) h = record { sfits = h }
fits-from false n h = record { sfits = omega arith }

-- what std calls a numeral that fits is a number
pub is_int-from : (bs : List ℕ) → IsNumeral 10 (without_leading_sign bs) × FitsSigned w64 (signed_digits_value 10 bs) → is_int bs ≡ true
is_int-from bs h =
    let some : nat_lt 0 (length (without_leading_sign bs)) ≡ true = le-leb 1 _ h.0.0 in
    let digits : all_ascii_digits (without_leading_sign bs) ≡ true = (numerals_by_value _ tells_all_ascii_digits).from (without_leading_sign bs) h.0.1 in
    let fits = most-from (starts_with_minus bs) (digits_value 10 (without_leading_sign bs)) h.1 in
    and_from _ _ some (and_from _ _ digits (le-leb _ _ fits))

-- and a number is such a numeral
pub numeral-from : (bs : List ℕ) → is_int bs ≡ true → IsNumeral 10 (without_leading_sign bs) × FitsSigned w64 (signed_digits_value 10 bs)
numeral-from bs h =
    let a = and_parts (nat_lt 0 (length (without_leading_sign bs))) (all_ascii_digits (without_leading_sign bs) && nat_le (digits_value 10 (without_leading_sign bs)) (most (starts_with_minus bs))) h in
    let b = and_parts (all_ascii_digits (without_leading_sign bs)) (nat_le (digits_value 10 (without_leading_sign bs)) (most (starts_with_minus bs))) a.1 in
    let digits : AllDigits 10 (without_leading_sign bs) = (numerals_by_value _ tells_all_ascii_digits).to (without_leading_sign bs) b.0 in
    ((leb-true 1 _ a.0, digits), fits-from (starts_with_minus bs) (digits_value 10 (without_leading_sign bs)) (leb-true _ _ b.1))

-- what `parse` would give for a field
abbrev read_as : List ℕ → Bool → Result ℤ Bool
read_as field b = if b then Ok (signed_digits_value 10 field) else Err false

read_is : (field : List ℕ) (b : Bool) → is_int field ≡ b → ParsesSigned w64 10 field (read_as field b)
read_is field true e = (numeral-from field e, refl)
read_is field false e = λ p. both_ways (is_int field) e (is_int-from field p)

-- a number's text has the number
number-read : (z : ℤ) → FitsSigned w64 z → field_value kind.Int (signed_decimal z) ≡ Some (value.Int z)
number-read z fits = by (is_int (signed_decimal z)) refl
  where
    read : (b : Bool) → is_int (signed_decimal z) ≡ b → read_as (signed_decimal z) b ≡ Ok z
    read b e = parse-signed_decimal w64 z (signed_decimal z) (read_as (signed_decimal z) b) fits fits.sfits refl (read_is (signed_decimal z) b e)

    by : (b : Bool) → is_int (signed_decimal z) ≡ b → field_value kind.Int (signed_decimal z) ≡ Some (value.Int z)
    by true e = let same : signed_digits_value 10 (signed_decimal z) ≡ z = (let r = read true e in cc) in rw (e, same) refl
    by false e = absurd (let r = read false e in cc)

-- the text of a value that a table can hold is a field that has this value, in a column of its type
pub text-read : (k : ColumnType) (v : Value) → IsTrue (has_type k v) → CanBeHeld v → field_value k (field_text v) ≡ Some v
text-read kind.Int (value.Int z) typed held = number-read z held
text-read kind.Int (value.Text text) typed held = cc
text-read kind.Text (value.Int z) typed held = cc
text-read kind.Text (value.Text text) typed held = rw (is_utf8-from_IsUtf8 text held) refl
