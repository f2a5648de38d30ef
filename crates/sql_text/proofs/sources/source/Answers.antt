use Rattle.std.proofs.Common.{refl, ◌∙◌, ◌++◌}
use Rattle.std.proofs.lemmas.Result.{err_from_is_err_and}
use Rattle.sql_grammar.specs.Grammar.{Part, Tree, token, word, many, opt, level, line, name, names, types, comparisons, magnitudes, None, Left, Right, Both, In, By, ◌▸◌, ◌∣◌}
use Rattle.sql_grammar.specs.Grammar as g
use Rattle.sql_grammar.specs.Meaning.{factor_of, joins_of, source_of}
use Rattle.sql_grammar.proofs.Loops.{pushed}
use Rattle.sql_grammar.proofs.Leads.{at_line, behind, hands_on, fails_first, read_ok, append_err}
use Rattle.sql_text.proofs.sources.source.Goals as goal

pub returns-in_err-found : goal.returns-in_err-found
returns-in_err-found c =
    let p = err_from_is_err_and c.from_residual.result c.from_residual.ensures.1 in
    rw (p.1, p.2) (fails_first (at_line g.source) refl c.args.end c.in_err-found.field-0.0
    (append_err factor_of (λ r. r.0) (λ r. r.1.now) _ _ c.args.end c.in_err-found.ensures (c.factor.ensures c.args.levels)))

pub returns : goal.returns
returns c =
    let first = read_ok factor_of (λ r. r.0) (λ r. r.1.now) c.args.end c.in_ok-found.ensures.1 (c.factor.ensures c.args.levels) in
    hands_on (λ more. c.in_ok-found.found.items ++ joins_of more) (λ d. c.args.found.items ++ source_of d) (λ r. r.0.items) (λ r. r.0.items) (λ r. r.1.now) c.args.end
    (behind (at_line g.source) refl first.reads)
    (λ d r e. pushed c.args.found.items first.value c.in_ok-found.ensures.2 (joins_of d) ∙ e) c.joins.result c.joins.ensures
