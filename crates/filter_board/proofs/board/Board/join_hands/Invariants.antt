use Rattle.std.proofs.Common.{[], length}
use Rattle.filter_board.proofs.board.Board.join_hands.Given as goal

abbrev pub ghosts-show_as : goal.ghosts-show_as
ghosts-show_as g a = record { pipe = length a.self.now.plan.pipes; morsels = 0; items = []; port = 0; mask = 0; sealed = 0; parts = 0 }
