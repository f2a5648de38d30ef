use Rattle.std.proofs.Common.{rules, arith}
use Rattle.filter_board.proofs.BoardFacts.{facts}
use Rattle.filter_board.proofs.Moves.{looks_as}
use Rattle.filter_board.proofs.Offsets.{offset_in}
use Rattle.filter_board.proofs.board.Board.look_as.Goals as goal

pub load-requires : goal.load-requires
load-requires g c = let f = facts g.P.Placement.seen g.met.P.Placement.lawful _ _ _ _ _ _ c.self.invariant c.self.view_is in (
  search rules,
  omega (arith, c.requires.at, f.words, offset_in c.args.self.now.plan.words _ _ c.requires.word.0 c.requires.word.1),
  looks_as _ _ _ _ f.right f.same f.parts _ _ _ c.args.region c.args.word _ _ c.requires.at c.requires.about c.requires.word c.requires.seen,
)
