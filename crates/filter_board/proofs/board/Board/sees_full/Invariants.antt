use Rattle.std.proofs.Common.{[]}
use Rattle.filter_board.specs.Shares.{parts_of}
use Rattle.filter_board.proofs.board.Board.sees_full.Given as goal

abbrev pub ghosts-see_as : goal.ghosts-see_as
ghosts-see_as g a = record { pipe = a.pipe; morsels = a.morsels; items = []; port = 0; mask = 0; sealed = 0; parts = parts_of a.self.now.workers }
