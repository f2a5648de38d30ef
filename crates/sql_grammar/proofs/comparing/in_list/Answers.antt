use Rattle.std.proofs.Common.{ℕ, sym, ap, ◌∙◌, List}
use Rattle.std.proofs.lemmas.Result.{err_from_is_err_and}
use Rattle.rpt_base.specs.declared.values.Value.{Value}
use Rattle.sql_grammar.specs.declared.tree.Expr.{Expr}
use Rattle.sql_grammar.specs.declared.tree.Cond.TheVariants as condition
use Rattle.sql_grammar.specs.Meaning.{list_of, in_list, list}
use Rattle.sql_grammar.proofs.Leads.{itself, done, read_ok, read_err}
use Rattle.sql_grammar.proofs.comparing.in_list.Goals as goal

pub returns-in_err-operand : goal.returns-in_err-operand
returns-in_err-operand c n =
    let p = err_from_is_err_and c.from_residual.result c.from_residual.ensures.1 in
    rw (p.1, p.2) (read_err list_of (λ r. r.0) (λ r. r.1.now) _ _ c.args.end c.in_err-operand.ensures (c.list.ensures n))

pub returns : goal.returns
returns c n =
    let values = read_ok list_of (λ r. r.0) (λ r. r.1.now) c.args.end c.in_ok-operand.ensures.0 (c.list.ensures n) in
    done (itself list) values.tree values.reads
    (ap (λ (x : List Value). in_list c.args.operand c.args.negated x) values.value
    ∙ ap (λ (x : Expr). in_list x c.args.negated c.in_ok-operand.values) (sym c.in_ok-operand.ensures.1)
    ∙ ap (λ (at : ℕ). condition.InList at c.args.negated c.in_ok-operand.operand c.in_ok-operand.values) (sym c.at.ensures))
