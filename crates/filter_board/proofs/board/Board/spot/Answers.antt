use Rattle.std.proofs.Common.{arith}
use Rattle.std.proofs.lemmas.Grind.{common_steps}
use Rattle.filter_board.proofs.board.Board.spot.Goals as goal

pub place_in-place-requires : goal.place_in-place-requires
place_in-place-requires g c = grind (arith, common_steps)

pub at-requires : goal.at-requires
at-requires g c = grind (arith, common_steps)

pub returns-clause-at : goal.returns-clause-at
returns-clause-at g c = grind (arith, common_steps)

pub returns-clause-mask : goal.returns-clause-mask
returns-clause-mask g c = grind (arith, common_steps)
