use Rattle.std.proofs.Common.{rules, arith}
use Rattle.filter_board.proofs.BoardFacts.{facts}
use Rattle.filter_board.proofs.Moves.{splits_as}
use Rattle.filter_board.proofs.board.Board.split_as.Goals as goal

pub split_seat-requires : goal.split_seat-requires
split_seat-requires g c = let f = facts g.P.Placement.seen g.met.P.Placement.lawful _ _ _ _ _ _ c.self.invariant c.self.view_is in (
  search rules,
  omega (arith, f.words, f.valid.some),
  splits_as _ _ _ _ f.right f.same f.parts _ _ _ _ c.requires.about c.requires.parts.0 c.requires.parts.1,
)
