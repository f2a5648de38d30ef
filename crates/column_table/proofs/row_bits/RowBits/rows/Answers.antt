use Rattle.std.proofs.Common.{sym}
use Rattle.column_table.proofs.BitFacts.{bits-length}
use Rattle.column_table.proofs.row_bits.RowBits.rows.Goals as goal

pub returns : goal.returns
returns c = sym (bits-length c.self.inside.words.items c.self.inside.rows c.args.self.now c.self.view_is)
