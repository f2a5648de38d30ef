use Rattle.filter_board.proofs.BoardFacts.{facts}
use Rattle.filter_board.proofs.board.Board.plan.Goals as goal

pub returns-clause-made : goal.returns-clause-made
returns-clause-made g c = let f = facts g.P.Placement.seen g.met.P.Placement.lawful _ _ _ _ _ _ c.self.invariant c.self.view_is in record { valid = f.valid; workers = f.workers }
