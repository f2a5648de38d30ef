use Rattle.std.proofs.Common.{[]}
use Rattle.transfer_core.specs.Sealed.{sealed}
use Rattle.filter_board.specs.Views.{shape_in}
use Rattle.filter_board.proofs.board.Board.tests.Given as goal

abbrev pub ghosts-look_as : goal.ghosts-look_as
ghosts-look_as g a = record { pipe = 0; morsels = 0; items = []; port = 0; mask = 0; sealed = sealed (shape_in g.P.Placement.seen a.self.now) a.region a.word; parts = 0 }
