-- The bytes of keys, and their hashes.
use Rattle.std.specs.Prelude.{ℕ, ◌*◌, ◌/◌, ◌%◌, ◌^◌, List, [], ◌∷◌, ◌++◌, bit_xor, length}
use Rattle.std.specs.Int.{cast_unsigned, to_le_bytes, w64}
use Rattle.std.specs.List.{flat_map}
use Rattle.rpt_base.specs.declared.values.Value.{Value}
use Rattle.rpt_base.specs.declared.values.Value.TheVariants as value

-- a number in two's complement, and a text behind its length, eight bytes each, the lowest first
abbrev pub value_bytes : Value → List ℕ
value_bytes (value.Int n) = to_le_bytes w64 (cast_unsigned w64 n)
value_bytes (value.Text text) = to_le_bytes w64 (length text) ++ text

-- the bytes of a key: those of its values, in their order
abbrev pub key_bytes : List Value → List ℕ
key_bytes key = flat_map value_bytes key

-- a hash and one byte more
abbrev pub with_byte : ℕ → ℕ → ℕ
with_byte hash byte = bit_xor hash byte * 1099511628211 % 2 ^ 64

-- FNV-1a with 64 bits, from a hash on
abbrev pub fnv_from : ℕ → List ℕ → ℕ
fnv_from hash [] = hash
fnv_from hash (byte ∷ bytes) = fnv_from (with_byte hash byte) bytes

abbrev pub fnv : List ℕ → ℕ
fnv bytes = fnv_from 14695981039346656037 bytes

-- a number and its own upper bits, by xor
abbrev pub folded : ℕ → ℕ → ℕ
folded bits z = bit_xor z (z / 2 ^ bits)

-- the last step of a hash, by which each bit of a number reaches all others
abbrev pub mix : ℕ → ℕ
mix z = folded 31 (folded 27 (folded 30 z * 13787848793156543929 % 2 ^ 64) * 10723151780598845931 % 2 ^ 64)

-- the hash of a key
abbrev pub hash_of : List Value → ℕ
hash_of key = mix (fnv (key_bytes key))
