use Rattle.std.proofs.Common.{arith}
use Rattle.std.proofs.lemmas.Grind.{common_steps}
use Rattle.column_table.proofs.ColumnFacts.{next-typed, row-full}
use Rattle.column_table.proofs.table.Table.push_row.Goals as goal

pub put-requires : goal.put-requires
put-requires c =
    next-typed c.loop-value.self-inside.builder c.args.self.now.kinds c.args.self.now.rows c.args.row.now c.loop-value.value-index c.value-item.result c.loop-value.invariant c.requires.types c.loop-value-test.true c.value-item.is

pub end_row-requires-clause-full : goal.end_row-requires-clause-full
end_row-requires-clause-full c =
    row-full c.loop-value.self-inside.builder c.args.self.now.kinds c.args.self.now.rows c.args.row.now c.loop-value.value-index c.loop-value.invariant c.requires.types c.loop-value-test.false

pub loop-value-preserved : goal.loop-value-preserved
loop-value-preserved c = grind (arith, common_steps)
