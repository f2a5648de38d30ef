use Rattle.std.proofs.Common.{sym, ◌∙◌}
use Rattle.std.proofs.lemmas.Result.{err_from_is_err_and}
use Rattle.sql_grammar.specs.Grammar.{line}
use Rattle.sql_grammar.specs.Grammar as g
use Rattle.sql_grammar.proofs.Leads.{itself, done, fails}
use Rattle.sql_text.proofs.sources.factor.Goals as goal

pub returns-in_err-table : goal.returns-in_err-table
returns-in_err-table c n =
    let p = err_from_is_err_and c.from_residual.result c.from_residual.ensures.1 in
    rw (p.1, p.2) (fails (itself (line g.factor)) c.args.end c.in_err-table.field-0.0 (c.in_err-table.ensures n))

pub returns : goal.returns
returns c n =
    let source = c.in_ok-table.ensures n in
    done (itself (line g.factor)) source.tree source.reads (source.value ∙ sym c.unjoined.ensures)
