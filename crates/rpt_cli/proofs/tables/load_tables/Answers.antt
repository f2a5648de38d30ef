use Rattle.std.proofs.Common.{◌∙◌, subst, sym, ◌+◌, List, arith}
use Rattle.std.proofs.lemmas.Grind.{common_steps}
use Rattle.column_table.specs.Table.{Rows}
use Rattle.std.proofs.lemmas.Result.{err_from_is_err_and}
use Rattle.rpt_cli.proofs.TableFacts.{HasCome, HasCome-AreTables, HasCome-ends, HasCome-next, HasCome-refused, pushed}
use Rattle.rpt_cli.proofs.tables.load_tables.Goals as goal

pub returns-in_err-table-clause-refused : goal.returns-in_err-table-clause-refused
returns-in_err-table-clause-refused g c =
    let p = err_from_is_err_and c.from_residual.result c.from_residual.ensures.1 in
    rw (p.1, p.2)
    (HasCome-refused g.F.Files c.args.folder.now c.args.files.now c.tables.files c.next_table.new.files
    c.args.bound.now.query.tables c.tables.room c.tables.tables.items c.tables.number c.decl.result.now c.tables.invariant c.decl.ensures.decl
    c.in_err-table.field-0.0 c.in_err-table.ensures.refused)

pub tables-preserved : goal.tables-preserved
tables-preserved g c =
    let has = HasCome-next g.F.Files c.args.folder.now c.args.files.now c.tables.files c.next_table.new.files
    c.args.bound.now.query.tables c.tables.room c.tables.tables.items c.tables.number c.decl.result.now c.tables.invariant c.decl.ensures.decl
    (c.in_ok-table.table, c.in_ok-table.left) c.in_ok-table.ensures.kinds c.in_ok-table.ensures.passes c.in_ok-table.ensures.kept in
    let items = pushed c.push.result c.push.new.self.items c.tables.tables.items c.in_ok-table.table c.push.ensures.items (sym c.is_err.ensures.value ∙ c.if-is_err.false) in
    subst (λ (tables : List Rows). HasCome g.F.Files c.args.folder.now c.args.files.now c.next_table.new.files
    c.args.bound.now.query.tables c.in_ok-table.left tables (c.tables.number + 1)) (sym items) has

pub returns-clause-tables : goal.returns-clause-tables
returns-clause-tables g c =
    HasCome-AreTables g.F.Files c.args.folder.now c.args.files.now c.tables.files c.args.bound.now.query c.tables.room c.tables.tables.items c.tables.number
    c.tables.invariant (omega (arith, c.tables-test.false, c.tables-number-end.ensures.count))

pub returns-clause-passes : goal.returns-clause-passes
returns-clause-passes g c =
    HasCome-ends g.F.Files c.args.folder.now c.args.files.now c.tables.files c.args.bound.now.query c.tables.room c.tables.tables.items c.tables.number
    c.tables.invariant (omega (arith, c.tables-test.false, c.tables-number-end.ensures.count))

pub tables-init : goal.tables-init
tables-init c = grind (arith, common_steps)

pub returns-then-is_err-clause-refused : goal.returns-then-is_err-clause-refused
returns-then-is_err-clause-refused c = grind (arith, common_steps)
