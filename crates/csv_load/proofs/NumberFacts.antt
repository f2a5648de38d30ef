-- Which fields are numbers.
use Rattle.std.proofs.Common.{◌≡◌, ◌<◌, ◌≤◌, ◌^◌, ◌-◌, ℕ, zero, suc, Bool, true, false, cond, List, [], ◌∷◌, drop, refl, sym, subst, ◌∙◌, arith, ℤ, IsTrue}
use Rattle.std.specs.Prelude.{◌==◌, ◌&&◌, FitsSigned, if◌then◌else◌}
use Rattle.std.specs.Int.{cast_signed, cast_unsigned, w64}
use Rattle.std.specs.Str.{IsAscii, IsUtf8}
use Rattle.std.specs.Str.Parse.{IsNumeral, signed_digits_value, without_leading_sign}
use Rattle.std.proofs.lemmas.Bool.{eqb-true}
use Rattle.std.proofs.lemmas.Fmt.{IsAscii-from_digits}
use Rattle.std.proofs.lemmas.Int.{to_z-of_z}
use Rattle.std.proofs.lemmas.Str.{IsUtf8-from_ascii}
use Rattle.column_table.specs.FieldText.{is_int}
use Rattle.column_table.proofs.FieldFacts.{is_int-from, numeral-from}

-- a byte below 128 before ASCII
after_sign : (b : ℕ) (rest : List ℕ) → b < 128 → IsAscii rest → IsAscii (b ∷ rest)
after_sign b rest small h zero = small
after_sign b rest small h (suc i) = h i

-- a numeral with a sign or none is ASCII
signed_ascii : (bs : List ℕ) → IsNumeral 10 (without_leading_sign bs) → IsAscii bs
signed_ascii [] h = IsAscii-from_digits [] h.1
signed_ascii (b ∷ rest) h = minus (b == 45) refl h
  where
    plus : (c : Bool) → (b == 43) ≡ c → IsNumeral 10 (drop (cond c 1 0) (b ∷ rest)) → IsAscii (b ∷ rest)
    plus true e h = let is = eqb-true b 43 e in after_sign b rest (omega arith) (IsAscii-from_digits rest h.1)
    plus false e h = IsAscii-from_digits (b ∷ rest) h.1

    minus : (c : Bool) → (b == 45) ≡ c → IsNumeral 10 (cond c rest (drop (cond (b == 43) 1 0) (b ∷ rest))) → IsAscii (b ∷ rest)
    minus true e h = let is = eqb-true b 45 e in after_sign b rest (omega arith) (IsAscii-from_digits rest h.1)
    minus false e h = plus (b == 43) refl h

-- and so it is UTF-8
pub signed_utf8 : (bs : List ℕ) → IsNumeral 10 (without_leading_sign bs) → IsUtf8 bs
signed_utf8 bs h = IsUtf8-from_ascii bs (signed_ascii bs h)

-- what `parse` read is the field's number
pub parsed : (field text : List ℕ) (n : ℤ) → text ≡ field → (IsNumeral 10 (without_leading_sign text) × FitsSigned w64 (signed_digits_value 10 text)) × (n ≡ signed_digits_value 10 text)
    → IsTrue (is_int field) × (cast_signed w64 (cast_unsigned w64 n) ≡ signed_digits_value 10 field)
parsed field text n same h =
    let P : List ℕ → Type 0 = λ t. (IsNumeral 10 (without_leading_sign t) × FitsSigned w64 (signed_digits_value 10 t)) × (n ≡ signed_digits_value 10 t) in
    let k : P field = subst P same h in
    (is_int-from field k.0, to_z-of_z w64 n (subst (FitsSigned w64) (sym k.1) k.0.1) ∙ k.1)

-- and what it refused has none
pub not_parsed : (field text : List ℕ) → text ≡ field → (IsNumeral 10 (without_leading_sign text) × FitsSigned w64 (signed_digits_value 10 text) → ⊥) → IsTrue (is_int field) → ⊥
not_parsed field text same no_number h =
    let P : List ℕ → Type 0 = λ t. IsNumeral 10 (without_leading_sign t) × FitsSigned w64 (signed_digits_value 10 t) in
    no_number (subst P (sym same) (numeral-from field h))
