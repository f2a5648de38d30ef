use Rattle.std.proofs.Common.{◌∙◌, sym}
use Rattle.script_rules.proofs.CondFacts.{place_of-And, place_of-Or, place_of-Not, place_of-Compare, place_of-Between, place_of-InList, place_of-Like}
use Rattle.script_rules.proofs.conjuncts.+place_of.Goals as goal

pub place_of-returns-in-And : goal.place_of-returns-in-And
place_of-returns-in-And t c = c.first_place.ensures ∙ rw (c.as_slice.ensures, c.in-And.is) (sym (place_of-And c.in-And.members))

pub place_of-returns-in-Or : goal.place_of-returns-in-Or
place_of-returns-in-Or t c = c.first_place-in-Or.ensures ∙ rw (c.as_slice-in-Or.ensures, c.in-Or.is) (sym (place_of-Or c.in-Or.members))

pub place_of-returns-in-Not : goal.place_of-returns-in-Not
place_of-returns-in-Not t c = rw c.in-Not.is (sym (place_of-Not c.in-Not.at c.in-Not.inner))

pub place_of-returns-in-Compare : goal.place_of-returns-in-Compare
place_of-returns-in-Compare t c = rw c.in-Compare.is (sym (place_of-Compare c.in-Compare.at c.in-Compare.op c.in-Compare.left c.in-Compare.right))

pub place_of-returns-in-Between : goal.place_of-returns-in-Between
place_of-returns-in-Between t c = rw c.in-Between.is (sym (place_of-Between c.in-Between.at c.in-Between.negated c.in-Between.operand c.in-Between.low c.in-Between.high))

pub place_of-returns-in-InList : goal.place_of-returns-in-InList
place_of-returns-in-InList t c = rw c.in-InList.is (sym (place_of-InList c.in-InList.at c.in-InList.negated c.in-InList.operand c.in-InList.values))

pub place_of-returns-in-Like : goal.place_of-returns-in-Like
place_of-returns-in-Like t c = rw c.in-Like.is (sym (place_of-Like c.in-Like.at c.in-Like.negated c.in-Like.operand c.in-Like.pattern))
