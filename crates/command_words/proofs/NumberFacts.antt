-- What std's reading of a number gives of digits.
use Rattle.std.proofs.Common.{◌≡◌, ◌∙◌, ap, sym, arith, rules, ℕ, ◌<◌, ◌^◌, List, length}
use Rattle.std.specs.Prelude.{true, ◌&&◌, nat_le, None, Some, Result, Ok, Err}
use Rattle.std.specs.Char.{is_ascii_digit}
use Rattle.std.specs.List.{list_all}
use Rattle.std.specs.Result.{result_ok}
use Rattle.std.specs.Str.Parse.{digits_value, ParsesUnsigned}
use Rattle.std.proofs.Math.Nat.{lt_of_not-le}
use Rattle.std.proofs.lemmas.Bool.{and_from, and_parts, and_right, cond-false, cond-true, le-leb, leb-true, lt-leb}
use Rattle.std.proofs.lemmas.Str.Parse.{IsNumeralModel, numerals_by_value, parse_digits}
use Rattle.command_words.specs.Words.{are_digits, number_of}

-- the test on digits, and the number that they write
digits : IsNumeralModel (λ ds. list_all is_ascii_digit ds ≡ true) (digits_value 10)
digits = numerals_by_value _ (search rules)

-- some digits, and nothing else
digits-parts : (most : ℕ) (word : List ℕ) → are_digits most word ≡ true → (0 < length word) × (list_all is_ascii_digit word ≡ true)
digits-parts most word are =
    let some = and_parts (nat_le 1 (length word)) (nat_le (length word) most && list_all is_ascii_digit word) are in
    (leb-true 1 (length word) some.0, (and_parts (nat_le (length word) most) (list_all is_ascii_digit word) some.1).1)

-- what std reads of digits is their number of 32 bits, if there is one
pub read-number : {E : Type 0} (most : ℕ) (word : List ℕ) (r : Result ℕ E) → are_digits most word ≡ true → ParsesUnsigned 32 10 word r → result_ok r ≡ number_of most word
unfolding number_of
read-number {E} most word (Err e) are read =
    let parts = digits-parts most word are in
    let large : ¬ ((0 < length word) × (digits_value 10 word < 2 ^ 32)) = parse_digits digits 32 word (Err e) read parts.1 in
    let past : 4294967295 < digits_value 10 word = lt_of_not-le (λ few. large (parts.0, omega (arith, few))) in
    sym (cond-false (are_digits most word && nat_le (digits_value 10 word) 4294967295) (Some (digits_value 10 word)) None
    (and_right (are_digits most word) (nat_le (digits_value 10 word) 4294967295) (lt-leb (digits_value 10 word) 4294967295 past)))
read-number {E} most word (Ok n) are read =
    let is : ((0 < length word) × (digits_value 10 word < 2 ^ 32)) × (n ≡ digits_value 10 word) = parse_digits digits {E = E} 32 word (Ok n) read (digits-parts most word are).1 in
    let few : digits_value 10 word < 2 ^ 32 = is.0.1 in
    ap Some is.1 ∙ sym (cond-true (are_digits most word && nat_le (digits_value 10 word) 4294967295) (Some (digits_value 10 word)) None
    (and_from (are_digits most word) (nat_le (digits_value 10 word) 4294967295) are (le-leb (digits_value 10 word) 4294967295 (omega (arith, few)))))
