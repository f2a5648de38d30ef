use Rattle.std.proofs.Common.{◌≡◌, take}
use Rattle.key_codes.specs.Hashes.{fnv, key_bytes}
use Rattle.key_codes.specs.Keys.{item_key}
use Rattle.key_codes.proofs.hashing.item_hash.Given as goal

abbrev pub invariant-loop-place : goal.invariant-loop-place
invariant-loop-place l = l.hash ≡ fnv (key_bytes (take l.place (item_key l.keys l.item)))
