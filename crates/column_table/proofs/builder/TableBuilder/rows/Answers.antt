use Rattle.std.proofs.Common.{sym, arith}
use Rattle.column_table.proofs.ColumnFacts.{rows-count, rows-typed}
use Rattle.column_table.proofs.builder.TableBuilder.rows.Goals as goal

pub returns-clause-count : goal.returns-clause-count
returns-clause-count c = sym (rows-count c.self.inside.columns.items c.self.inside.rows c.self.inside.filled c.args.self.now c.self.view_is)

pub returns-clause-limit : goal.returns-clause-limit
returns-clause-limit c = omega (arith, rows-count c.self.inside.columns.items c.self.inside.rows c.self.inside.filled c.args.self.now c.self.view_is, c.self.invariant.few_rows)

pub returns-clause-typed : goal.returns-clause-typed
returns-clause-typed c = rows-typed c.self.inside.columns.items c.self.inside.rows c.self.inside.filled c.args.self.now c.self.invariant c.self.view_is
