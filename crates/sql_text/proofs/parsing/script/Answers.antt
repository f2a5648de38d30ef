use Rattle.std.proofs.Common.{refl, ap, ◌∙◌, List}
use Rattle.std.proofs.lemmas.Result.{err_from_is_err_and}
use Rattle.sql_grammar.specs.Grammar.{◌▸◌, ◌∣◌}
use Rattle.sql_grammar.specs.Grammar as g
use Rattle.sql_grammar.specs.declared.tree.CreateTable.{CreateTable}
use Rattle.sql_grammar.specs.declared.tree.Select.{Select}
use Rattle.sql_grammar.specs.Meaning.{whole_script, select_of}
use Rattle.sql_grammar.proofs.Leads.{at_line, behind, done, fails_first}
use Rattle.sql_text.proofs.parsing.script.Goals as goal

pub returns-in_err-tables : goal.returns-in_err-tables
returns-in_err-tables c =
    let p = err_from_is_err_and c.from_residual.result c.from_residual.ensures.1 in
    let l0 = at_line g.script in
    rw (p.1, p.2) (fails_first l0 refl c.args.end c.in_err-tables.field-0.0 (c.in_err-tables.ensures c.args.levels))

pub returns-in_err-select : goal.returns-in_err-select
returns-in_err-select c =
    let p = err_from_is_err_and c.from_residual-in_err-select.result c.from_residual-in_err-select.ensures.1 in
    let l0 = at_line g.script in
    let tables = c.in_ok-tables.ensures c.args.levels in
    let l1 = behind l0 refl tables.reads in
    rw (p.1, p.2) (fails_first l1 refl c.args.end c.in_err-select.field-0.0 (c.in_err-select.ensures))

pub returns : goal.returns
returns c =
    let tables = c.in_ok-tables.ensures c.args.levels in
    let select = c.in_ok-select.ensures in
    let semicolon = c.passes.ensures c.args.levels in
    done (behind (behind (at_line g.script) refl tables.reads) refl select.reads) semicolon.tree semicolon.reads
    (ap (λ (xs : List CreateTable). whole_script xs (select_of select.tree)) tables.value ∙ ap (λ (x : Select). whole_script c.in_ok-tables.tables x) select.value)
