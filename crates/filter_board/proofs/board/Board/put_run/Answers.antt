use Rattle.std.proofs.Common.{arith}
use Rattle.std.proofs.lemmas.Grind.{common_steps}
use Rattle.filter_board.proofs.board.Board.put_run.Goals as goal

pub put_as-requires-clause-part : goal.put_as-requires-clause-part
put_as-requires-clause-part g c = grind (arith, common_steps)

pub put_as-requires-clause-run : goal.put_as-requires-clause-run
put_as-requires-clause-run g c = grind (arith, common_steps)
