use Rattle.std.proofs.Common.{ℕ, refl, sym, ap, ◌∙◌, List, Option}
use Rattle.std.proofs.lemmas.Result.{err_from_is_err_and}
use Rattle.sql_grammar.specs.Grammar.{◌▸◌, ◌∣◌}
use Rattle.sql_grammar.specs.Grammar as g
use Rattle.sql_grammar.specs.declared.tree.Alias.{Alias}
use Rattle.sql_grammar.specs.declared.tree.ColumnName.{ColumnName}
use Rattle.sql_grammar.specs.declared.tree.Item.{Item}
use Rattle.sql_grammar.specs.Meaning.{titled_item, alias_of}
use Rattle.sql_grammar.proofs.Leads.{at_line, behind, done, fails, fails_first}
use Rattle.sql_text.proofs.sources.item.Goals as goal

pub returns-in_err-column : goal.returns-in_err-column
returns-in_err-column c n =
    let p = err_from_is_err_and c.from_residual.result c.from_residual.ensures.1 in
    let l0 = at_line g.item in
    rw (p.1, p.2) (fails_first l0 refl c.args.end c.in_err-column.field-0.0 (c.in_err-column.ensures n))

pub returns-in_err-alias : goal.returns-in_err-alias
returns-in_err-alias c n =
    let p = err_from_is_err_and c.from_residual-in_err-alias.result c.from_residual-in_err-alias.ensures.1 in
    let l0 = at_line g.item in
    let column = c.in_ok-column.ensures n in
    let l1 = behind l0 refl column.reads in
    rw (p.1, p.2) (fails l1 c.args.end c.in_err-alias.field-0.0 (c.in_err-alias.ensures n))

pub returns : goal.returns
returns c n =
    let l0 = at_line g.item in
    let column = c.in_ok-column.ensures n in
    let l1 = behind l0 refl column.reads in
    let alias = c.in_ok-alias.ensures n in
    done l1 alias.tree alias.reads (ap (λ (x : ColumnName). titled_item x (alias_of alias.tree)) column.value
    ∙ ap (λ (x : Option Alias). titled_item c.in_ok-column.column x) alias.value
    ∙ ap (λ (x : Option (List ℕ)). itemed c.in_ok-column.column x) (sym c.title_of.ensures))
  where
    itemed : ColumnName → Option (List ℕ) → Item
    itemed column title = record { column = column; title = title }
