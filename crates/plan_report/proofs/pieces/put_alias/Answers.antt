use Rattle.std.proofs.Common.{arith}
use Rattle.std.proofs.lemmas.Grind.{elements}
use Rattle.plan_report.proofs.pieces.put_alias.Goals as goal

pub returns : goal.returns
returns c = grind (arith, elements)
