use Rattle.std.proofs.Common.{◌∙◌, ap, sym, arith}
use Rattle.script_rules.specs.Conjuncts.{are_of, columns_in}
use Rattle.script_rules.proofs.CondFacts.{columns_in-And, columns_in-Or, columns_in-Not, columns_in-Compare, columns_in-Between, columns_in-InList, columns_in-Like}
use Rattle.script_rules.proofs.NamedFacts.{of_from-more, of_from-other, of_from-end}
use Rattle.script_rules.proofs.named.+are_of.Goals as goal

pub are_of-returns-in-And : goal.are_of-returns-in-And
are_of-returns-in-And t c = c.all_are_of.ensures ∙ rw (c.as_slice.ensures, c.in-And.is) (ap (are_of c.args.relation) (sym (columns_in-And c.args.scope.now c.in-And.members)))

pub are_of-returns-in-Or : goal.are_of-returns-in-Or
are_of-returns-in-Or t c = c.all_are_of-in-Or.ensures ∙ rw (c.as_slice-in-Or.ensures, c.in-Or.is) (ap (are_of c.args.relation) (sym (columns_in-Or c.args.scope.now c.in-Or.members)))

pub are_of-returns-in-Not : goal.are_of-returns-in-Not
are_of-returns-in-Not t c = c.are_of.ensures ∙ rw (c.get.ensures, c.in-Not.is) (ap (are_of c.args.relation) (sym (columns_in-Not c.args.scope.now c.in-Not.at c.in-Not.inner)))

pub are_of-returns-in-Compare : goal.are_of-returns-in-Compare
are_of-returns-in-Compare t c = c.two_are_of.ensures ∙ rw c.in-Compare.is (ap (are_of c.args.relation) (sym (columns_in-Compare c.args.scope.now c.in-Compare.at c.in-Compare.op c.in-Compare.left c.in-Compare.right)))

pub are_of-returns-in-Between : goal.are_of-returns-in-Between
are_of-returns-in-Between t c = c.three_are_of.ensures ∙ rw c.in-Between.is (ap (are_of c.args.relation) (sym (columns_in-Between c.args.scope.now c.in-Between.at c.in-Between.negated c.in-Between.operand c.in-Between.low c.in-Between.high)))

pub are_of-returns-in-InList : goal.are_of-returns-in-InList
are_of-returns-in-InList t c = c.one_is_of.ensures ∙ rw c.in-InList.is (ap (are_of c.args.relation) (sym (columns_in-InList c.args.scope.now c.in-InList.at c.in-InList.negated c.in-InList.operand c.in-InList.values)))

pub are_of-returns-in-Like : goal.are_of-returns-in-Like
are_of-returns-in-Like t c = c.one_is_of-in-Like.ensures ∙ rw c.in-Like.is (ap (are_of c.args.relation) (sym (columns_in-Like c.args.scope.now c.in-Like.at c.in-Like.negated c.in-Like.operand c.in-Like.pattern)))

pub all_are_of-returns-then-not-are_of : goal.all_are_of-returns-then-not-are_of
all_are_of-returns-then-not-are_of t c =
    let f = columns_in c.args.scope.now in
    let e = ap (λ x. are_of c.args.relation (f x)) (sym c.cond-item.is) ∙ sym c.are_of.ensures ∙ c.if-not-are_of.true in
    sym (of_from-other f c.args.conds.now c.args.relation c.loop-cond.cond-index c.cond-item.result (omega arith) e c.loop-cond.invariant)

pub all_are_of-loop-cond-preserved : goal.all_are_of-loop-cond-preserved
all_are_of-loop-cond-preserved t c =
    let f = columns_in c.args.scope.now in
    let e = ap (λ x. are_of c.args.relation (f x)) (sym c.cond-item.is) ∙ sym c.are_of.ensures ∙ c.if-not-are_of.false in
    of_from-more f c.args.conds.now c.args.relation c.loop-cond.cond-index c.cond-item.result (omega arith) e c.loop-cond.invariant

pub all_are_of-returns : goal.all_are_of-returns
all_are_of-returns t c = sym (of_from-end (columns_in c.args.scope.now) c.args.conds.now c.args.relation c.loop-cond.cond-index (omega arith) c.loop-cond.invariant)
