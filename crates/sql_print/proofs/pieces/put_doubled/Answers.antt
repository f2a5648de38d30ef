use Rattle.std.proofs.Common.{arith}
use Rattle.std.proofs.lemmas.Grind.{common_steps}
use Rattle.sql_print.proofs.pieces.put_doubled.Goals as goal

pub loop-first-preserved : goal.loop-first-preserved
loop-first-preserved c = grind (arith, common_steps)

pub loop-first-preserved-in_ok-extend_from_slice : goal.loop-first-preserved-in_ok-extend_from_slice
loop-first-preserved-in_ok-extend_from_slice c = grind (arith, common_steps)
