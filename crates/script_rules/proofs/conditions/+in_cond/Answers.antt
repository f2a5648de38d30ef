use Rattle.std.proofs.Common.{◌∙◌, ◌+◌, ap, sym, subst, arith}
use Rattle.std.specs.Prelude.{Option}
use Rattle.script_rules.specs.declared.found.Violation.{Violation}
use Rattle.script_rules.specs.Violations.{cond_violations, first_of}
use Rattle.script_rules.proofs.CondFacts.{cond_violations-And, cond_violations-Or, cond_violations-Not, cond_violations-Compare, cond_violations-Between, cond_violations-InList, cond_violations-Like}
use Rattle.script_rules.proofs.ViolationFacts.{IsNoted, noted-more, noted-end}
use Rattle.script_rules.proofs.conditions.+in_cond.Goals as goal

pub in_cond-returns-in-And : goal.in_cond-returns-in-And
in_cond-returns-in-And t c = c.in_conds.ensures ∙ rw (c.as_slice.ensures, c.in-And.is) (ap (first_of c.args.found) (sym (cond_violations-And c.args.scope.now c.in-And.members)))

pub in_cond-returns-in-Or : goal.in_cond-returns-in-Or
in_cond-returns-in-Or t c = c.in_conds-in-Or.ensures ∙ rw (c.as_slice-in-Or.ensures, c.in-Or.is) (ap (first_of c.args.found) (sym (cond_violations-Or c.args.scope.now c.in-Or.members)))

pub in_cond-returns-in-Not : goal.in_cond-returns-in-Not
in_cond-returns-in-Not t c = c.in_cond.ensures ∙ rw (c.get.ensures, c.in-Not.is) (ap (first_of c.args.found) (sym (cond_violations-Not c.args.scope.now c.in-Not.at c.in-Not.inner)))

pub in_cond-returns-in-Compare : goal.in_cond-returns-in-Compare
in_cond-returns-in-Compare t c = c.in_compare.ensures ∙ rw c.in-Compare.is (ap (first_of c.args.found) (sym (cond_violations-Compare c.args.scope.now c.in-Compare.at c.in-Compare.op c.in-Compare.left c.in-Compare.right)))

pub in_cond-returns-in-Between : goal.in_cond-returns-in-Between
in_cond-returns-in-Between t c = c.in_between.ensures ∙ rw c.in-Between.is (ap (first_of c.args.found) (sym (cond_violations-Between c.args.scope.now c.in-Between.at c.in-Between.negated c.in-Between.operand c.in-Between.low c.in-Between.high)))

pub in_cond-returns-in-InList : goal.in_cond-returns-in-InList
in_cond-returns-in-InList t c = c.in_list.ensures ∙ rw (c.as_slice-in-InList.ensures, c.in-InList.is) (ap (first_of c.args.found) (sym (cond_violations-InList c.args.scope.now c.in-InList.at c.in-InList.negated c.in-InList.operand c.in-InList.values)))

pub in_cond-returns-in-Like : goal.in_cond-returns-in-Like
in_cond-returns-in-Like t c = c.in_like.ensures ∙ rw c.in-Like.is (ap (first_of c.args.found) (sym (cond_violations-Like c.args.scope.now c.in-Like.at c.in-Like.negated c.in-Like.operand c.in-Like.pattern)))

pub in_conds-loop-cond-preserved : goal.in_conds-loop-cond-preserved
in_conds-loop-cond-preserved t c =
    let violations = cond_violations c.args.scope.now in
    let e = c.in_cond-found.ensures ∙ ap (λ member. first_of c.loop-cond.found (violations member)) c.cond-item.is in
    let P : Option Violation → Type 0 = λ found. IsNoted violations c.args.conds.now c.args.found found (c.loop-cond.cond-index + 1) in
    subst P (sym e) (noted-more violations c.args.conds.now c.args.found c.loop-cond.found c.loop-cond.cond-index c.cond-item.result (omega arith) c.loop-cond.invariant)

pub in_conds-returns : goal.in_conds-returns
in_conds-returns t c = noted-end (cond_violations c.args.scope.now) c.args.conds.now c.args.found c.loop-cond.found c.loop-cond.cond-index (omega arith) c.loop-cond.invariant
