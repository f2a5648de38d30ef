use Rattle.std.proofs.Common.{refl, sym, ap, ◌∙◌}
use Rattle.std.proofs.lemmas.Result.{err_from_is_err_and}
use Rattle.sql_grammar.specs.declared.tree.Expr.{Expr}
use Rattle.sql_grammar.specs.Meaning.{range, range_of, operand_of}
use Rattle.sql_grammar.proofs.Leads.{itself, behind, beside, fails_first}
use Rattle.sql_grammar.proofs.comparing.range.Goals as goal

pub returns-in_err-low : goal.returns-in_err-low
returns-in_err-low c n =
    let p = err_from_is_err_and c.from_residual.result c.from_residual.ensures.1 in
    rw (p.1, p.2) (fails_first (itself range) refl c.args.end c.in_err-low.field-0.0 (c.in_err-low.ensures n))

pub returns-in_err-low-2 : goal.returns-in_err-low-2
returns-in_err-low-2 c n =
    let p = err_from_is_err_and c.from_residual-in_err-low-2.result c.from_residual-in_err-low-2.ensures.1 in
    let low = c.in_ok-low.ensures n in
    rw (p.1, p.2) (fails_first (behind (itself range) refl low.reads) refl c.args.end c.in_err-low-2.field-0.0 (c.in_err-low-2.ensures n))

pub returns : goal.returns
returns c n =
    let low = c.in_ok-low.ensures n in
    let conjunction = c.in_ok-low-2.ensures n in
    beside operand_of range_of (λ r. r.0) (λ r. r.now) c.args.end (behind (behind (itself range) refl low.reads) refl conjunction.reads)
    (λ high both same e. ap (λ (x : Expr). pair x (operand_of high)) (low.value ∙ conjunction.value ∙ sym same) ∙ ap (λ (x : Expr). pair both.0.0 x) e)
    c.operand-2.result c.paired.result (c.operand-2.ensures n) c.paired.ensures
  where
    pair : Expr → Expr → Expr × Expr
    pair low high = (low, high)
