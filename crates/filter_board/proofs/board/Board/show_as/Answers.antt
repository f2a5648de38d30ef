use Rattle.std.proofs.Common.{rules, arith}
use Rattle.filter_board.proofs.BoardFacts.{facts}
use Rattle.filter_board.proofs.Moves.{shows_as}
use Rattle.filter_board.proofs.board.Board.show_as.Goals as goal

pub load-requires : goal.load-requires
load-requires g c = let f = facts g.P.Placement.seen g.met.P.Placement.lawful _ _ _ _ _ _ c.self.invariant c.self.view_is in (
  search rules,
  omega (arith, f.words, f.valid.some),
  shows_as _ _ _ _ f.right f.same f.parts _ _ _ _ _ c.requires.about,
)
