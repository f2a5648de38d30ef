use Rattle.std.proofs.Common.{◌∙◌, ap, sym, arith}
use Rattle.std.proofs.lemmas.Grind.{common_steps}
use Rattle.predicate.specs.declared.tree.Pred.TheVariants as pred
use Rattle.binder.proofs.PredFacts.{pred_of-And, pred_of-Or, pred_of-Not, pred_of-Compare, pred_of-Between, pred_of-InList, pred_of-Like}
use Rattle.binder.proofs.translate.+translated.Goals as goal

pub translated-returns-in_ok-all-in-And : goal.translated-returns-in_ok-all-in-And
translated-returns-in_ok-all-in-And t c =
    ap pred.And (c.from_vec.ensures ∙ c.in_ok-all-in-And.ensures) ∙ rw (c.as_slice.ensures, c.in-And.is) (sym (pred_of-And c.args.scope.now c.in-And.members))

pub translated-returns-in_ok-any-in-Or : goal.translated-returns-in_ok-any-in-Or
translated-returns-in_ok-any-in-Or t c =
    ap pred.Or (c.from_vec-in-Or.ensures ∙ c.in_ok-any-in-Or.ensures) ∙ rw (c.as_slice-in-Or.ensures, c.in-Or.is) (sym (pred_of-Or c.args.scope.now c.in-Or.members))

pub translated-returns-in_ok-pred-in-Not : goal.translated-returns-in_ok-pred-in-Not
translated-returns-in_ok-pred-in-Not t c =
    rw (c.in-Not.is, pred_of-Not c.args.scope.now c.in-Not.at c.in-Not.inner, ← c.get.ensures, ← c.in_ok-pred-in-Not.ensures) c.negated_if.ensures

pub translated-returns-in-Compare : goal.translated-returns-in-Compare
translated-returns-in-Compare t c =
    rw (c.in-Compare.is, pred_of-Compare c.args.scope.now c.in-Compare.at c.in-Compare.op c.in-Compare.left c.in-Compare.right) c.compare.ensures

pub translated-returns-in-Between : goal.translated-returns-in-Between
translated-returns-in-Between t c =
    rw (c.in-Between.is, pred_of-Between c.args.scope.now c.in-Between.at c.in-Between.negated c.in-Between.operand c.in-Between.low c.in-Between.high) c.between.ensures

pub translated-returns-in-InList : goal.translated-returns-in-InList
translated-returns-in-InList t c =
    rw (c.in-InList.is, pred_of-InList c.args.scope.now c.in-InList.at c.in-InList.negated c.in-InList.operand c.in-InList.values, ← c.as_slice-in-InList.ensures) c.in_list.ensures

pub translated-returns-in-Like : goal.translated-returns-in-Like
translated-returns-in-Like t c =
    rw (c.in-Like.is, pred_of-Like c.args.scope.now c.in-Like.at c.in-Like.negated c.in-Like.operand c.in-Like.pattern) c.like.ensures

pub all_translated-loop-cond-preserved : goal.all_translated-loop-cond-preserved
all_translated-loop-cond-preserved t c = grind (arith, common_steps)

pub all_translated-returns : goal.all_translated-returns
all_translated-returns t c = grind (arith, common_steps)
