use Rattle.std.proofs.Common.{arith}
use Rattle.std.proofs.lemmas.Grind.{elements}
use Rattle.row_output.proofs.cells.cell_at.Goals as goal

pub returns : goal.returns
returns c = grind (arith, elements)
