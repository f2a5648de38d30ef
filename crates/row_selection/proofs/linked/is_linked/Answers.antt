use Rattle.std.proofs.Common.{arith}
use Rattle.std.proofs.lemmas.Grind.{common_steps}
use Rattle.row_selection.proofs.linked.is_linked.Goals as goal

pub loop-first-preserved : goal.loop-first-preserved
loop-first-preserved c = grind (arith, common_steps)

pub returns-then-not-has_equal : goal.returns-then-not-has_equal
returns-then-not-has_equal c = grind (arith, common_steps)
