use Rattle.std.proofs.Common.{ℕ, sym, ap, ◌∙◌, List}
use Rattle.std.proofs.lemmas.Result.{err_from_is_err_and}
use Rattle.sql_grammar.specs.declared.kinds.Kind.TheVariants as k
use Rattle.sql_grammar.specs.Grammar.{word}
use Rattle.sql_grammar.specs.declared.tree.Expr.{Expr}
use Rattle.sql_grammar.specs.declared.tree.Cond.TheVariants as condition
use Rattle.sql_grammar.specs.Meaning.{text_of, like}
use Rattle.sql_grammar.proofs.Leads.{itself, done, read_ok, read_err}
use Rattle.sql_grammar.proofs.comparing.like.Goals as goal

pub returns-in_err-operand : goal.returns-in_err-operand
returns-in_err-operand c n =
    let p = err_from_is_err_and c.from_residual.result c.from_residual.ensures.1 in
    rw (p.1, p.2) (read_err text_of (λ r. r.0) (λ r. r.1.now) _ _ c.args.end c.in_err-operand.ensures (c.text.ensures n))

pub returns : goal.returns
returns c n =
    let pattern = read_ok text_of (λ r. r.0) (λ r. r.1.now) c.args.end c.in_ok-operand.ensures.0 (c.text.ensures n) in
    done (itself (word k.Text)) pattern.tree pattern.reads
    (ap (λ (x : List ℕ). like c.args.operand c.args.negated x) pattern.value
    ∙ ap (λ (x : Expr). like x c.args.negated c.in_ok-operand.pattern) (sym c.in_ok-operand.ensures.1)
    ∙ ap (λ (at : ℕ). condition.Like at c.args.negated c.in_ok-operand.operand c.in_ok-operand.pattern) (sym c.at.ensures))
