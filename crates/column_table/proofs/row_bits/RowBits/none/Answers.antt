use Rattle.std.proofs.Common.{◌≡◌, rules}
use Rattle.std.specs.Prelude.{replicate}
use Rattle.column_table.proofs.BitFacts.{are-none, no-bits}
use Rattle.column_table.proofs.row_bits.RowBits.none.Goals as goal

pub invariant_of-result : goal.invariant_of-result
invariant_of-result c =
    let items : c.in_ok-words.words.items ≡ replicate c.div_ceil.result 0 = search rules in
    are-none c.in_ok-words.words.items c.args.rows c.ranges.rows.fits (rw c.div_ceil.ensures at items)

pub returns : goal.returns
returns c =
    let items : c.in_ok-words.words.items ≡ replicate c.div_ceil.result 0 = search rules in
    no-bits c.in_ok-words.words.items c.div_ceil.result c.args.rows items
