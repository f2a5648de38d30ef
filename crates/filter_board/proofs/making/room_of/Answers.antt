use Rattle.std.proofs.Common.{arith}
use Rattle.std.proofs.lemmas.Grind.{common_steps}
use Rattle.filter_board.proofs.making.room_of.Goals as goal

pub returns-clause-starts : goal.returns-clause-starts
returns-clause-starts g c = grind (arith, common_steps)

pub returns-clause-rooms : goal.returns-clause-rooms
returns-clause-rooms g c = grind (arith, common_steps)
