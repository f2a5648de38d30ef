use Rattle.std.proofs.Common.{ℕ, sym, ap, ◌∙◌}
use Rattle.std.proofs.lemmas.Result.{err_from_is_err_and}
use Rattle.sql_grammar.specs.declared.tree.Expr.{Expr}
use Rattle.sql_grammar.specs.declared.tree.Cond.TheVariants as condition
use Rattle.sql_grammar.specs.Meaning.{range_of, between, range}
use Rattle.sql_grammar.proofs.Leads.{itself, done, read_ok, read_err}
use Rattle.sql_grammar.proofs.comparing.between.Goals as goal

pub returns-in_err-operand : goal.returns-in_err-operand
returns-in_err-operand c n =
    let p = err_from_is_err_and c.from_residual.result c.from_residual.ensures.1 in
    rw (p.1, p.2) (read_err range_of (λ r. r.0) (λ r. r.1.now) _ _ c.args.end c.in_err-operand.ensures (c.range.ensures n))

pub returns : goal.returns
returns c n =
    let bounds = read_ok range_of (λ r. r.0) (λ r. r.1.now) c.args.end c.in_ok-operand.ensures.0 (c.range.ensures n) in
    done (itself range) bounds.tree bounds.reads
    (ap (λ (x : Expr × Expr). between c.args.operand c.args.negated x.0 x.1) bounds.value
    ∙ ap (λ (x : Expr). between x c.args.negated c.in_ok-operand.low c.in_ok-operand.high) (sym c.in_ok-operand.ensures.1)
    ∙ ap (λ (at : ℕ). condition.Between at c.args.negated c.in_ok-operand.operand c.in_ok-operand.low c.in_ok-operand.high) (sym c.at.ensures))
