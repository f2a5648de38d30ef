use Rattle.std.proofs.Common.{ℕ, sym, ap, ◌∙◌}
use Rattle.std.proofs.lemmas.Result.{err_from_is_err_and}
use Rattle.sql_grammar.specs.Grammar.{line}
use Rattle.sql_grammar.specs.Grammar as g
use Rattle.sql_grammar.specs.declared.tree.Expr.{Expr}
use Rattle.sql_grammar.specs.declared.tree.Cond.TheVariants as condition
use Rattle.sql_grammar.specs.Meaning.{operand_of, compare}
use Rattle.sql_grammar.proofs.Leads.{itself, done, read_ok, read_err}
use Rattle.sql_grammar.proofs.comparing.compared.Goals as goal

pub returns-in_err-left : goal.returns-in_err-left
returns-in_err-left c n =
    let p = err_from_is_err_and c.from_residual.result c.from_residual.ensures.1 in
    rw (p.1, p.2) (read_err operand_of (λ r. r.0) (λ r. r.1.now) _ _ c.args.end c.in_err-left.ensures (c.operand.ensures n))

pub returns : goal.returns
returns c n =
    let right = read_ok operand_of (λ r. r.0) (λ r. r.1.now) c.args.end c.in_ok-left.ensures.0 (c.operand.ensures n) in
    done (itself (line g.operand)) right.tree right.reads
    (ap (λ (x : Expr). compare c.args.left c.args.op x) right.value
    ∙ ap (λ (x : Expr). compare x c.args.op c.in_ok-left.right) (sym c.in_ok-left.ensures.1)
    ∙ ap (λ (at : ℕ). condition.Compare at c.args.op c.in_ok-left.left c.in_ok-left.right) (sym c.at.ensures))
