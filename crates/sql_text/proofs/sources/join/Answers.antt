use Rattle.std.proofs.Common.{refl, sym, ap, ◌∙◌, Option}
use Rattle.std.proofs.lemmas.Result.{err_from_is_err_and}
use Rattle.sql_grammar.specs.declared.tree.Alias.{Alias}
use Rattle.sql_grammar.specs.declared.tree.Cond.{Cond}
use Rattle.sql_grammar.specs.declared.tree.Source.{Source}
use Rattle.sql_grammar.specs.Meaning.{join, unjoined_source, joined_source, cond_of}
use Rattle.sql_grammar.proofs.Leads.{itself, behind, done, fails, fails_first, read_ok, read_err}
use Rattle.sql_text.proofs.sources.join.Goals as goal

pub returns-in_err-rest : goal.returns-in_err-rest
returns-in_err-rest c =
    let p = err_from_is_err_and c.from_residual.result c.from_residual.ensures.1 in
    let inner = c.passes.ensures c.args.levels in
    rw (p.1, p.2) (fails_first (behind (itself join) refl inner.reads) refl c.args.end c.in_err-rest.field-0.0 (c.in_err-rest.ensures c.args.levels))

pub returns-in_err-table : goal.returns-in_err-table
returns-in_err-table c =
    let p = err_from_is_err_and c.from_residual-in_err-table.result c.from_residual-in_err-table.ensures.1 in
    let inner = c.passes.ensures c.args.levels in
    let keyword = c.in_ok-rest.ensures c.args.levels in
    let l1 = behind (behind (itself join) refl inner.reads) refl keyword.reads in
    rw (p.1, p.2) (fails_first l1 refl c.args.end c.in_err-table.field-0.0 (c.in_err-table.ensures c.args.levels))

pub returns-in_err-table-2 : goal.returns-in_err-table-2
returns-in_err-table-2 c =
    let p = err_from_is_err_and c.from_residual-in_err-table-2.result c.from_residual-in_err-table-2.ensures.1 in
    let inner = c.passes.ensures c.args.levels in
    let keyword = c.in_ok-rest.ensures c.args.levels in
    let l1 = behind (behind (itself join) refl inner.reads) refl keyword.reads in
    let table = c.in_ok-table.ensures c.args.levels in
    rw (p.1, p.2) (fails_first (behind l1 refl table.reads) refl c.args.end c.in_err-table-2.field-0.0 (c.in_err-table-2.ensures c.args.levels))

pub returns-in_err-table-3 : goal.returns-in_err-table-3
returns-in_err-table-3 c =
    let p = err_from_is_err_and c.from_residual-in_err-table-3.result c.from_residual-in_err-table-3.ensures.1 in
    let inner = c.passes.ensures c.args.levels in
    let keyword = c.in_ok-rest.ensures c.args.levels in
    let l1 = behind (behind (itself join) refl inner.reads) refl keyword.reads in
    let table = c.in_ok-table.ensures c.args.levels in
    let on_word = c.in_ok-table-2.ensures c.args.levels in
    rw (p.1, p.2) (fails (behind (behind l1 refl table.reads) refl on_word.reads) c.args.end c.in_err-table-3.field-0.0
    (read_err cond_of (λ r. r.0) (λ r. r.1.now) _ _ c.args.end c.in_err-table-3.ensures c.cond.ensures))

pub returns : goal.returns
returns c =
    let inner = c.passes.ensures c.args.levels in
    let keyword = c.in_ok-rest.ensures c.args.levels in
    let l1 = behind (behind (itself join) refl inner.reads) refl keyword.reads in
    let table = c.in_ok-table.ensures c.args.levels in
    let on_word = c.in_ok-table-2.ensures c.args.levels in
    let on = read_ok cond_of (λ r. r.0) (λ r. r.1.now) c.args.end c.in_ok-table-3.ensures.0 c.cond.ensures in
    done (behind (behind l1 refl table.reads) refl on_word.reads) on.tree on.reads
    (ap (λ (x : Source). joined_source x (cond_of on.tree)) table.value
    ∙ ap (λ (x : Alias × Option Alias). joined_source (unjoined_source x.0 x.1) (cond_of on.tree)) (on_word.value ∙ sym c.in_ok-table-3.ensures.1)
    ∙ ap (λ (x : Cond). joined_source (unjoined_source c.in_ok-table-3.table c.in_ok-table-3.alias) x) on.value ∙ sym c.joined.ensures)
