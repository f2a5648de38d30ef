use Rattle.std.proofs.Common.{refl, sym, ap, ◌∙◌, Option}
use Rattle.std.proofs.lemmas.Result.{err_from_is_err_and}
use Rattle.sql_grammar.specs.Grammar as g
use Rattle.sql_grammar.specs.declared.tree.Alias.{Alias}
use Rattle.sql_grammar.specs.Meaning.{unjoined_source, alias_of, factor_of}
use Rattle.sql_grammar.proofs.Leads.{at_line, behind, beside, fails_first}
use Rattle.sql_text.proofs.sources.table_of.Goals as goal

pub returns-in_err-table : goal.returns-in_err-table
returns-in_err-table c n =
    let p = err_from_is_err_and c.from_residual.result c.from_residual.ensures.1 in
    rw (p.1, p.2) (fails_first (at_line g.factor) refl c.args.end c.in_err-table.field-0.0 (c.in_err-table.ensures n))

pub returns : goal.returns
returns c n =
    let table = c.in_ok-table.ensures n in
    beside alias_of factor_of (λ r. unjoined_source r.0.0 r.0.1) (λ r. r.now) c.args.end (behind (at_line g.factor) refl table.reads)
    (λ alias both same e. ap (λ (x : Alias). unjoined_source x (alias_of alias)) (table.value ∙ sym same) ∙ ap (λ (x : Option Alias). unjoined_source both.0.0 x) e)
    c.alias.result c.paired.result (c.alias.ensures n) c.paired.ensures
