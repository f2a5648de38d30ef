use Rattle.std.proofs.Common.{◌∙◌, sym, arith}
use Rattle.std.proofs.lemmas.Grind.{common_steps}
use Rattle.std.specs.Str.{chars}
use Rattle.predicate.specs.Like.{is_like}
use Rattle.predicate.proofs.LikeFacts.{some_tail-here}
use Rattle.predicate.proofs.like.some_tail_is_like.Goals as goal

pub returns-in-Whole : goal.returns-in-Whole
returns-in-Whole c =
    sym (sym c.loop-behind.invariant.2 ∙ some_tail-here (is_like (chars c.loop-behind.pattern.now)) (chars c.loop-behind.text.now) c.in-Whole.ensures.fit)

pub loop-behind-preserved : goal.loop-behind-preserved
loop-behind-preserved c = grind (arith, common_steps)

pub loop-behind-preserved-in-UpToPercent : goal.loop-behind-preserved-in-UpToPercent
loop-behind-preserved-in-UpToPercent c = grind (arith, common_steps)
