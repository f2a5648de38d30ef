use Rattle.std.proofs.Common.{◌∙◌, sym, arith}
use Rattle.std.proofs.lemmas.Grind.{common_steps}
use Rattle.predicate.proofs.TruthFacts.{is_typed-And, is_typed-Or}
use Rattle.predicate.proofs.typing.+is_typed.Goals as goal

pub is_typed-returns-in-And : goal.is_typed-returns-in-And
is_typed-returns-in-And t c = c.are_typed.ensures ∙ rw (c.as_slice.ensures, c.in-And.is) (sym (is_typed-And _ c.in-And.all))

pub is_typed-returns-in-Or : goal.is_typed-returns-in-Or
is_typed-returns-in-Or t c = c.are_typed-in-Or.ensures ∙ rw (c.as_slice-in-Or.ensures, c.in-Or.is) (sym (is_typed-Or _ c.in-Or.some))

pub are_typed-loop-pred-preserved : goal.are_typed-loop-pred-preserved
are_typed-loop-pred-preserved t c = grind (arith, common_steps)

pub are_typed-returns-then-not-is_typed : goal.are_typed-returns-then-not-is_typed
are_typed-returns-then-not-is_typed t c = grind (arith, common_steps)
