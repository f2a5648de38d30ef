use Rattle.std.proofs.Common.{◌∙◌, ap, arith}
use Rattle.std.proofs.lemmas.Grind.{common_steps, elements}
use Rattle.column_table.specs.Table.{Rows}
use Rattle.bound_query.proofs.RelationTables.{table_at-kinds, table_at-read}
use Rattle.bound_query.proofs.relation_tables.table_at.Goals as goal

pub returns-clause-kinds : goal.returns-clause-kinds
returns-clause-kinds c =
    let q = c.args.bound.now.query in
    let tables = c.args.tables.now in
    ap (λ (t : Rows). t.kinds) (table_at-read q tables c.args.relation c.table_of.result c.index-tables-table_of.result c.requires.tables c.table_of.ensures.table c.table_of.ensures.within c.index-tables-table_of.is)
    ∙ table_at-kinds q tables c.args.relation c.requires.tables

pub bounds-tables-table_of : goal.bounds-tables-table_of
bounds-tables-table_of c = grind (arith, common_steps)

pub returns-clause-table : goal.returns-clause-table
returns-clause-table c = grind (arith, elements)
