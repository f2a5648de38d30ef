use Rattle.std.proofs.Common.{arith}
use Rattle.column_table.proofs.ColumnFacts.{rows-count, shows-end}
use Rattle.column_table.proofs.builder.TableBuilder.end_row.Goals as goal

pub invariant_of-self : goal.invariant_of-self
invariant_of-self c =
    (shows-end c.self.inside.columns.items c.self.inside.rows c.self.inside.filled c.args.self.now c.self.invariant c.self.view_is c.requires.full
    (omega (arith, rows-count c.self.inside.columns.items c.self.inside.rows c.self.inside.filled c.args.self.now c.self.view_is))).are

pub returns : goal.returns
returns c =
    (shows-end c.self.inside.columns.items c.self.inside.rows c.self.inside.filled c.args.self.now c.self.invariant c.self.view_is c.requires.full
    (omega (arith, rows-count c.self.inside.columns.items c.self.inside.rows c.self.inside.filled c.args.self.now c.self.view_is))).shows
