use Rattle.std.proofs.Common.{◌∙◌, ap, sym, arith}
use Rattle.script_rules.specs.Conjuncts.{first_relation, columns_in}
use Rattle.script_rules.proofs.CondFacts.{columns_in-And, columns_in-Or, columns_in-Not, columns_in-Compare, columns_in-Between, columns_in-InList, columns_in-Like}
use Rattle.script_rules.proofs.NamedFacts.{first_from-more, first_from-found, first_from-end}
use Rattle.script_rules.proofs.named.+first_relation.Goals as goal

pub first_relation-returns-in-And : goal.first_relation-returns-in-And
first_relation-returns-in-And t c = c.first_of_all.ensures ∙ rw (c.as_slice.ensures, c.in-And.is) (ap first_relation (sym (columns_in-And c.args.scope.now c.in-And.members)))

pub first_relation-returns-in-Or : goal.first_relation-returns-in-Or
first_relation-returns-in-Or t c = c.first_of_all-in-Or.ensures ∙ rw (c.as_slice-in-Or.ensures, c.in-Or.is) (ap first_relation (sym (columns_in-Or c.args.scope.now c.in-Or.members)))

pub first_relation-returns-in-Not : goal.first_relation-returns-in-Not
first_relation-returns-in-Not t c = c.first_relation.ensures ∙ rw (c.get.ensures, c.in-Not.is) (ap first_relation (sym (columns_in-Not c.args.scope.now c.in-Not.at c.in-Not.inner)))

pub first_relation-returns-in-Compare : goal.first_relation-returns-in-Compare
first_relation-returns-in-Compare t c = c.first_of_two.ensures ∙ rw c.in-Compare.is (ap first_relation (sym (columns_in-Compare c.args.scope.now c.in-Compare.at c.in-Compare.op c.in-Compare.left c.in-Compare.right)))

pub first_relation-returns-in-Between : goal.first_relation-returns-in-Between
first_relation-returns-in-Between t c = c.first_of_three.ensures ∙ rw c.in-Between.is (ap first_relation (sym (columns_in-Between c.args.scope.now c.in-Between.at c.in-Between.negated c.in-Between.operand c.in-Between.low c.in-Between.high)))

pub first_relation-returns-in-InList : goal.first_relation-returns-in-InList
first_relation-returns-in-InList t c = c.first_of_one.ensures ∙ rw c.in-InList.is (ap first_relation (sym (columns_in-InList c.args.scope.now c.in-InList.at c.in-InList.negated c.in-InList.operand c.in-InList.values)))

pub first_relation-returns-in-Like : goal.first_relation-returns-in-Like
first_relation-returns-in-Like t c = c.first_of_one-in-Like.ensures ∙ rw c.in-Like.is (ap first_relation (sym (columns_in-Like c.args.scope.now c.in-Like.at c.in-Like.negated c.in-Like.operand c.in-Like.pattern)))

pub first_of_all-returns-in-Some : goal.first_of_all-returns-in-Some
first_of_all-returns-in-Some t c =
    let f = columns_in c.args.scope.now in
    let e = ap (λ x. first_relation (f x)) (sym c.cond-item.is) ∙ sym c.first_relation.ensures ∙ c.in-Some.is in
    sym (first_from-found f c.args.conds.now c.loop-cond.cond-index c.cond-item.result c.in-Some.relation (omega arith) e c.loop-cond.invariant)

pub first_of_all-loop-cond-preserved : goal.first_of_all-loop-cond-preserved
first_of_all-loop-cond-preserved t c =
    let f = columns_in c.args.scope.now in
    let e = ap (λ x. first_relation (f x)) (sym c.cond-item.is) ∙ sym c.first_relation.ensures ∙ c.in_default.is in
    first_from-more f c.args.conds.now c.loop-cond.cond-index c.cond-item.result (omega arith) e c.loop-cond.invariant

pub first_of_all-returns : goal.first_of_all-returns
first_of_all-returns t c = sym (first_from-end (columns_in c.args.scope.now) c.args.conds.now c.loop-cond.cond-index (omega arith) c.loop-cond.invariant)
