use Rattle.std.proofs.Common.{arith}
use Rattle.std.proofs.lemmas.Grind.{common_steps}
use Rattle.plan_report.proofs.pieces.column_at.Goals as goal

pub bounds-as_slice-column : goal.bounds-as_slice-column
bounds-as_slice-column c = grind (arith, common_steps)

pub returns : goal.returns
returns c = grind (arith, common_steps)
