use Rattle.column_table.specs.Table.{value_of}
use Rattle.column_table.proofs.ColumnFacts.{cell-at, cell-within}
use Rattle.column_table.proofs.builder.TableBuilder.cell.Goals as goal

pub cell-requires : goal.cell-requires
cell-requires c =
    cell-within c.self.inside.columns.items c.self.inside.rows c.self.inside.filled c.args.row c.args.column c.args.self.now c.index.result.now
    c.self.invariant c.self.view_is c.requires.row c.requires.column c.index.ensures

pub returns-clause-value : goal.returns-clause-value
returns-clause-value c =
    cell-at c.self.inside.columns.items c.self.inside.rows c.self.inside.filled c.args.row c.args.column c.args.self.now c.index.result.now (value_of c.cell.result)
    c.self.invariant c.self.view_is c.requires.row c.requires.column c.index.ensures c.cell.ensures.value
