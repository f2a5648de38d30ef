-- Numbers and their bits.
use Rattle.std.proofs.Common.{◌≡◌, ◌<◌, ℕ, arith}
use Rattle.std.specs.Prelude.{bit_or}
use Rattle.std.proofs.lemmas.Nat.Bits.{bit_at_or, same_from_bits}

-- the bits of three numbers
pub or_assoc : (a b c : ℕ) → bit_or (bit_or a b) c ≡ bit_or a (bit_or b c)
or_assoc a b c = same_from_bits (bit_or (bit_or a b) c) (bit_or a (bit_or b c)) (λ i.
    let x = bit_at_or (bit_or a b) c i in let y = bit_at_or a b i in let z = bit_at_or a (bit_or b c) i in let w = bit_at_or b c i in omega arith)

-- a lesser number is another one
pub differ : (x y : ℕ) → x < y → x ≡ y → ⊥
differ x y less same = omega arith
