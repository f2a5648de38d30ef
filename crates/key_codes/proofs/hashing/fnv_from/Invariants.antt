use Rattle.std.proofs.Common.{◌≡◌}
use Rattle.std.specs.Prelude.{drop}
use Rattle.key_codes.specs.Hashes.{fnv_from}
use Rattle.key_codes.proofs.hashing.fnv_from.Given as goal

-- what is left to be hashed gives the hash of all
abbrev pub invariant-loop-byte : goal.invariant-loop-byte
invariant-loop-byte l = fnv_from l.hash (drop l.byte-index l.bytes) ≡ fnv_from l.fn.hash l.bytes
