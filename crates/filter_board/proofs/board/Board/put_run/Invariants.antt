use Rattle.filter_board.proofs.board.Board.put_run.Given as goal

abbrev pub ghosts-put_as : goal.ghosts-put_as
ghosts-put_as g a = record { pipe = 0; morsels = 0; items = a.items.now; port = a.port; mask = 0; sealed = 0; parts = 0 }

abbrev pub ghosts-finds_as : goal.ghosts-finds_as
ghosts-finds_as g a = record { pipe = 0; morsels = 0; items = a.items.now; port = a.port; mask = a.mask; sealed = 0; parts = 0 }
