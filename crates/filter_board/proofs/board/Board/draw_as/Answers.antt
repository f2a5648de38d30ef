use Rattle.std.proofs.Common.{rules, arith, ◌∙◌}
use Rattle.filter_board.proofs.BoardFacts.{facts}
use Rattle.filter_board.proofs.Moves.{draws_as}
use Rattle.filter_board.proofs.board.Board.draw_as.Goals as goal

pub fetch_add-requires : goal.fetch_add-requires
fetch_add-requires g c = let f = facts g.P.Placement.seen g.met.P.Placement.lawful _ _ _ _ _ _ c.self.invariant c.self.view_is in (
  search rules,
  omega (arith, c.requires.pipe, f.words),
  draws_as _ _ _ _ f.right f.same f.parts _ _ _ _ _ _ c.requires.about.0 (c.requires.about.1 ∙ c.requires.morsels) c.requires.pipe
      (omega (arith, c.requires.about.1, c.requires.few, f.workers.most)) c.requires.free c.requires.part c.requires.seen c.requires.untold c.requires.marks,
)
