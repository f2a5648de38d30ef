-- The value that a field of a file has, and the text that is written for a value.
use Rattle.std.specs.Prelude.{◌≡◌, ◌-◌, ◌^◌, ◌&&◌, ℕ, nat_le, nat_lt, Bool, List, length, FitsSigned, Option, None, Some, if◌then◌else◌}
use Rattle.std.specs.Fmt.{signed_decimal}
use Rattle.std.specs.Int.{w64}
use Rattle.std.specs.Str.{IsUtf8, all_ascii_digits, is_utf8}
use Rattle.std.specs.Str.Parse.{digits_value, signed_digits_value, starts_with_minus, without_leading_sign}
use Rattle.rpt_base.specs.declared.values.ColumnType.{ColumnType}
use Rattle.rpt_base.specs.declared.values.ColumnType.TheVariants as kind
use Rattle.rpt_base.specs.declared.values.Value.{Value}
use Rattle.rpt_base.specs.declared.values.Value.TheVariants as value

-- an optional sign and one or more digits, with a value that a signed number of 64 bits can have
abbrev pub is_int : List ℕ → Bool
is_int field =
    nat_lt 0 (length (without_leading_sign field))
    && (all_ascii_digits (without_leading_sign field)
    && nat_le (digits_value 10 (without_leading_sign field)) (if starts_with_minus field then 2 ^ 63 else (2 ^ 63 - 1)))

-- the value that a field has in a column of this type; none where the field is bad
abbrev pub field_value : ColumnType → List ℕ → Option Value
field_value kind.Int field = if is_int field then Some (value.Int (signed_digits_value 10 field)) else None
field_value kind.Text field = if is_utf8 field then Some (value.Text field) else None

-- the text of a value: a number in decimal, and a text as it is
abbrev pub field_text : Value → List ℕ
field_text (value.Int z) = signed_decimal z
field_text (value.Text text) = text

-- a table can hold the value
abbrev pub CanBeHeld : Value → Type 0
CanBeHeld (value.Int z) = FitsSigned w64 z
CanBeHeld (value.Text text) = IsUtf8 text
