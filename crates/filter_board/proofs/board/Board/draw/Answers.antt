use Rattle.std.proofs.Common.{arith}
use Rattle.std.proofs.lemmas.Grind.{common_steps}
use Rattle.filter_board.proofs.board.Board.draw.Goals as goal

pub returns-then-hand-pipe-clause-none : goal.returns-then-hand-pipe-clause-none
returns-then-hand-pipe-clause-none g c = grind (arith, common_steps)

pub returns-then-found-morsels-clause-rising : goal.returns-then-found-morsels-clause-rising
returns-then-found-morsels-clause-rising g c = grind (arith, common_steps)

pub draw_as-found-requires-clause-marks : goal.draw_as-found-requires-clause-marks
draw_as-found-requires-clause-marks g c = grind (arith, common_steps)
