use Rattle.std.proofs.Common.{◌≡◌, map, take}
use Rattle.key_codes.specs.Codes.{keys_of}
use Rattle.key_codes.specs.Hashes.{hash_of}
use Rattle.key_codes.proofs.hashing.hashes.Given as goal

abbrev pub invariant-loop-item : goal.invariant-loop-item
invariant-loop-item l = l.hashes.items ≡ map hash_of (take l.item (keys_of l.keys))
