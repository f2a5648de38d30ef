use Rattle.std.proofs.Common.{arith}
use Rattle.std.proofs.lemmas.Grind.{common_steps}
use Rattle.filter_board.proofs.board.Board.sees_full.Goals as goal

pub returns-then-hand-pipe-clause-full : goal.returns-then-hand-pipe-clause-full
returns-then-hand-pipe-clause-full g c = grind (arith, common_steps)

pub see_as-found-requires-clause-at : goal.see_as-found-requires-clause-at
see_as-found-requires-clause-at g c = grind (arith, common_steps)
