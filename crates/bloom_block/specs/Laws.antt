-- The laws of places of hashes. They stand here since what a placement's ghost members cite stands in specs.
-- Words of this crate's own contracts.
use Rattle.std.proofs.Common.{◌≢◌, mul_comm, subst, ℕ, ◌*◌, ◌/◌, ◌%◌, ◌^◌, ◌<◌, ◌≤◌, All, List, get_or, arith}
use Rattle.std.specs.Prelude.{bit_or}
use Rattle.std.proofs.Math.Nat.{div-lt_iff_lt-mul, mul-lt-mul_of_pos_left, one-le-pow}
use Rattle.std.proofs.lemmas.Nat.{le_or_l}
use Rattle.key_codes.specs.Placement.{IsLawful}
use Rattle.bloom_block.specs.declared.bloom.Bloom as hashes
use Rattle.bloom_block.specs.Bloom.{seen_hashes}
use Rattle.bloom_block.specs.Hashes.{bloom_places}

-- a part of 2^32 leads to one of the words
pub word-inside : (part words : ℕ) → part < 2 ^ 32 → 1 ≤ words → part * words / 2 ^ 32 < words
word-inside part words lt some =
    let scaled : words * part < words * 2 ^ 32 = mul-lt-mul_of_pos_left lt (omega arith) in
    (div-lt_iff_lt-mul (omega arith)).1 (subst (λ (x : ℕ). x < words * 2 ^ 32) (mul_comm words part) scaled)

-- bits of which the first is there aren't 0
pub some-bits : (a b c d : ℕ) → 1 ≤ a → bit_or (bit_or a b) (bit_or c d) ≢ 0
some-bits a b c d some e =
    let first = le_or_l a b in
    let both = le_or_l (bit_or a b) (bit_or c d) in
    omega arith

bloom_lawful : (hs : List ℕ) → All (λ h. h < 2 ^ 64) hs → IsLawful (bloom_places hs)
bloom_lawful hs fit = record {
  inside = λ item words lt least some.
      let small : get_or hs item 0 / 2 ^ 32 < 2 ^ 32 = omega (arith, fit item 0 lt) in
      word-inside (get_or hs item 0 / 2 ^ 32) words small some;
  some_bit = λ item words lt least some.
      let h = get_or hs item 0 in
      some-bits (2 ^ (h % 64)) (2 ^ (h / 2 ^ 6 % 64)) (2 ^ (h / 2 ^ 12 % 64)) (2 ^ (h / 2 ^ 18 % 64)) (one-le-pow (h % 64) 2 (omega arith));
}

pub lawful_hashes : (it : hashes.Bloom) → IsLawful (seen_hashes it)
lawful_hashes it = bloom_lawful it.hashes.items it.fit
