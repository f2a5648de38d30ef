use Rattle.std.proofs.Common.{rules, arith, ◌∙◌}
use Rattle.filter_board.proofs.BoardFacts.{facts}
use Rattle.filter_board.proofs.Moves.{sees_as}
use Rattle.filter_board.proofs.board.Board.see_as.Goals as goal

pub load-requires : goal.load-requires
load-requires g c = let f = facts g.P.Placement.seen g.met.P.Placement.lawful _ _ _ _ _ _ c.self.invariant c.self.view_is in (
  search rules,
  omega (arith, f.words, c.requires.at, c.requires.pipe),
  sees_as _ _ _ _ f.right f.same f.parts _ _ _ c.args.pipe _ _ _ _ c.requires.at c.requires.about.0 (c.requires.about.1 ∙ c.requires.morsels) c.requires.parts c.requires.pipe c.requires.part,
)
