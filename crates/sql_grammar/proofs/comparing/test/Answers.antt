use Rattle.std.proofs.Common.{refl, ap, ◌∙◌}
use Rattle.std.proofs.lemmas.Result.{err_from_is_err_and}
use Rattle.sql_grammar.specs.Kinds.{numbers}
use Rattle.sql_grammar.specs.Grammar.{comparisons}
use Rattle.sql_grammar.specs.declared.tree.Expr.{Expr}
use Rattle.rpt_base.specs.declared.comparisons.Comparison.{Comparison}
use Rattle.sql_grammar.specs.Meaning.{tests, test_of, predicate_of, operand_of, op_of, compare}
use Rattle.sql_grammar.proofs.Predicates.{compared, negated, in_turn, as_written, compare_is, predicate_is}
use Rattle.sql_grammar.proofs.Leads.{itself, behind, at_same, at_left, at_right, hands_on, fails_first, other_kinds, none_of}
use Rattle.sql_grammar.proofs.comparing.test.Goals as goal

pub returns-in_err-left : goal.returns-in_err-left
returns-in_err-left c n =
    let p = err_from_is_err_and c.from_residual.result c.from_residual.ensures.1 in
    let l0 = at_same (itself tests) as_written refl in
    rw (p.1, p.2) (fails_first l0 refl c.args.end c.in_err-left.field-0.0 (c.in_err-left.ensures n))

pub returns-in-Some : goal.returns-in-Some
returns-in-Some c n =
    let left = c.in_ok-left.ensures n in
    let l1 = behind (at_same (itself tests) as_written refl) refl left.reads in
    let op = c.in-Some.ensures.some n in
    hands_on (λ right. compare c.in_ok-left.left c.in-Some.op (operand_of right)) test_of (λ r. r.0) (λ r. r.0) (λ r. r.1.now) c.args.end
    (behind (at_left l1 (other_kinds negated (numbers comparisons) c.in-Some.ensures.begins refl refl)) refl op.reads)
    (λ right r e. compare_is left.tree op.tree right
    ∙ ap (λ (x : Expr). compare x (op_of op.tree) (operand_of right)) left.value
    ∙ ap (λ (x : Comparison). compare c.in_ok-left.left x (operand_of right)) op.value ∙ e) c.compared.result (c.compared.ensures n)

pub returns-in-None : goal.returns-in-None
returns-in-None c n =
    let l0 = at_same (itself tests) as_written refl in
    let left = c.in_ok-left.ensures n in
    let l1 = behind l0 refl left.reads in
    let l2 = at_same (at_right l1 (none_of compared (numbers comparisons) refl refl c.in-None.ensures.none)) in_turn refl in
    hands_on (predicate_of c.in_ok-left.left) test_of (λ r. r.0) (λ r. r.0) (λ r. r.1.now) c.args.end l2
    (λ d r e. predicate_is left.tree d ∙ ap (λ (x : Expr). predicate_of x d) left.value ∙ e) c.predicate.result (c.predicate.ensures n)
