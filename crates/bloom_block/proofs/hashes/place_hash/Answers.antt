use Rattle.std.proofs.Common.{◌%◌, ◌≤◌, sym, subst, arith, ℕ}
use Rattle.std.proofs.lemmas.Grind.{common_steps}
use Rattle.std.proofs.Math.Nat.{one-le-pow}
use Rattle.bloom_block.specs.Laws.{some-bits}
use Rattle.bloom_block.proofs.hashes.place_hash.Goals as goal

pub returns-clause-some_bit : goal.returns-clause-some_bit
returns-clause-some_bit c =
    some-bits c.bit.result c.bit-2.result c.bit-3.result c.bit-4.result (subst (λ (n : ℕ). 1 ≤ n) (sym c.bit.ensures) (one-le-pow (c.args.hash % 64) 2 (omega arith)))

pub returns-clause-place : goal.returns-clause-place
returns-clause-place c = grind (arith, common_steps)
