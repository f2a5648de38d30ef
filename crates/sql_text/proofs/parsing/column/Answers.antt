use Rattle.std.proofs.Common.{refl, ap, ◌∙◌}
use Rattle.std.proofs.lemmas.Result.{err_from_is_err_and}
use Rattle.sql_grammar.specs.Grammar.{◌▸◌, ◌∣◌}
use Rattle.sql_grammar.specs.Grammar as g
use Rattle.rpt_base.specs.declared.values.ColumnType.{ColumnType}
use Rattle.sql_grammar.specs.declared.tree.Alias.{Alias}
use Rattle.sql_grammar.specs.Meaning.{typed_column, type_of}
use Rattle.sql_grammar.proofs.Leads.{at_line, behind, done, fails, fails_first}
use Rattle.sql_text.proofs.parsing.column.Goals as goal

pub returns-in_err-column : goal.returns-in_err-column
returns-in_err-column c n =
    let p = err_from_is_err_and c.from_residual.result c.from_residual.ensures.1 in
    let l0 = at_line g.column in
    rw (p.1, p.2) (fails_first l0 refl c.args.end c.in_err-column.field-0.0 (c.in_err-column.ensures n))

pub returns-in_err-kind : goal.returns-in_err-kind
returns-in_err-kind c n =
    let p = err_from_is_err_and c.from_residual-in_err-kind.result c.from_residual-in_err-kind.ensures.1 in
    let l0 = at_line g.column in
    let column = c.in_ok-column.ensures n in
    let l1 = behind l0 refl column.reads in
    rw (p.1, p.2) (fails l1 c.args.end c.in_err-kind.field-0.0 (c.in_err-kind.ensures n))

pub returns : goal.returns
returns c n =
    let l0 = at_line g.column in
    let column = c.in_ok-column.ensures n in
    let l1 = behind l0 refl column.reads in
    let kind = c.in_ok-kind.ensures n in
    done l1 kind.tree kind.reads (ap (λ (x : Alias). typed_column x (type_of kind.tree)) column.value ∙ ap (λ (x : ColumnType). typed_column c.in_ok-column.column x) kind.value)
