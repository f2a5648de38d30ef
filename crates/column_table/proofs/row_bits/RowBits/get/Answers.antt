use Rattle.std.proofs.Common.{arith}
use Rattle.column_table.proofs.BitFacts.{bits-length, bit-read}
use Rattle.column_table.proofs.row_bits.RowBits.get.Goals as goal

pub word_of-requires : goal.word_of-requires
word_of-requires c = omega (arith, bits-length c.self.inside.words.items c.self.inside.rows c.args.self.now c.self.view_is, c.self.invariant.enough)

pub returns : goal.returns
returns c = bit-read c.self.inside.words.items c.self.inside.rows c.args.self.now c.args.row c.word_of.result c.self.view_is c.requires c.word_of.ensures
