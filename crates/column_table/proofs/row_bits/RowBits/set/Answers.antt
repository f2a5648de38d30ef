use Rattle.std.proofs.Common.{arith}
use Rattle.column_table.proofs.BitFacts.{are-set, bits-length, bits-set}
use Rattle.column_table.proofs.row_bits.RowBits.set.Goals as goal

pub index_mut-requires : goal.index_mut-requires
index_mut-requires c = omega (arith, bits-length c.self.inside.words.items c.self.inside.rows c.args.self.now c.self.view_is, c.self.invariant.enough)

pub invariant_of-self : goal.invariant_of-self
invariant_of-self c =
    are-set c.self.inside.words.items c.self.inside.rows c.args.self.now c.args.row c.index_mut.result.now c.self.view_is c.requires c.self.invariant c.index_mut.ensures.value

pub returns : goal.returns
returns c =
    bits-set c.self.inside.words.items c.self.inside.rows c.args.self.now c.args.row c.index_mut.result.now c.self.view_is c.requires c.self.invariant.enough c.index_mut.ensures.value
