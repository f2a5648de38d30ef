use Rattle.std.proofs.Common.{◌≡◌, ◌⊎◌, ◌∙◌, ◌-◌, ap, arith, length, subst, sym, List, ℕ}
use Rattle.std.proofs.lemmas.Result.{err_from_is_err_and}
use Rattle.std.specs.Prelude.{Err}
use Rattle.refusal_lines.specs.declared.errors.Refusal.TheVariants.{Memory}
use Rattle.rpt_cli.specs.Command.{table_course}
use Rattle.rpt_cli.specs.Steps.{Passes}
use Rattle.rpt_cli.specs.Tables.{table_of}
use Rattle.rpt_cli.proofs.TableFacts.{bytes-Stops, file-Stops, table-Passes}
use Rattle.rpt_cli.proofs.tables.next_table.Goals as goal

pub returns-in_err-bytes-clause-refused : goal.returns-in_err-bytes-clause-refused
returns-in_err-bytes-clause-refused g c =
    let p = err_from_is_err_and c.from_residual-in_err-bytes.result c.from_residual-in_err-bytes.ensures.1 in
    rw (p.1, p.2)
    (file-Stops g.F.Files c.args.folder.now c.args.files.now c.fetch.new.files c.args.room c.args.decl.now c.in_ok-file.file c.in_err-bytes.field-0.0 c.in_ok-file.ensures c.in_err-bytes.ensures.refused)

pub returns-clause-passes : goal.returns-clause-passes
returns-clause-passes g c =
    let decl = c.args.decl.now in
    let table = c.in_ok-table.table in
    let is = ap (λ (bytes : List ℕ). table_of decl bytes) (sym c.deref.ensures.value) ∙ c.in_ok-table.ensures in
    let count : c.len.result ≡ length c.in_ok-bytes.bytes.items = omega (arith, c.len.ensures, c.in_ok-bytes.bytes.ok) in
    subst (λ (n : ℕ). Passes g.F.Files c.args.files.now c.fetch.new.files (table_course c.args.room c.args.folder.now decl) (table, c.args.room - n)) (sym count)
    (table-Passes g.F.Files c.args.folder.now c.args.files.now c.fetch.new.files c.args.room decl c.in_ok-file.file c.in_ok-bytes.bytes.items table c.in_ok-file.ensures c.in_ok-bytes.ensures.passes is)

pub returns-in_err-table-clause-refused : goal.returns-in_err-table-clause-refused
returns-in_err-table-clause-refused g c =
    let decl = c.args.decl.now in
    let e = c.in_err-table.field-0.0 in
    let says = subst (λ (bytes : List ℕ). (e ≡ Memory) ⊎ (table_of decl bytes ≡ Err e)) c.deref.ensures.value c.in_err-table.ensures in
    let p = err_from_is_err_and c.from_residual-in_err-table.result c.from_residual-in_err-table.ensures.1 in
    rw (p.1, p.2)
    (bytes-Stops g.F.Files c.args.folder.now c.args.files.now c.fetch.new.files c.args.room decl c.in_ok-file.file c.in_ok-bytes.bytes.items e c.in_ok-file.ensures c.in_ok-bytes.ensures.passes says)
