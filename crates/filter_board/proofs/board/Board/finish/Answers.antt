use Rattle.std.proofs.Common.{List, rules, arith, ap, length, sym, subst}
use Rattle.transfer_core.specs.declared.plan.Pipe.{Pipe}
use Rattle.filter_board.specs.Views.{BoardView, HandView, MayFinish, job_in}
use Rattle.filter_board.proofs.BoardFacts.{facts}
use Rattle.filter_board.proofs.Moves.{finishes_as}
use Rattle.filter_board.proofs.board.Board.finish.Goals as goal

pub fetch_add-requires : goal.fetch_add-requires
fetch_add-requires g c = let f = facts g.P.Placement.seen g.met.P.Placement.lawful _ _ _ _ _ _ c.self.invariant c.self.view_is in
    let long = ap (λ (b : BoardView g.row.P.Denot). length b.plan.pipes) c.self.view_is in
    let slice = ap (λ (l : List Pipe). length l) c.as_slice.ensures in
    let may = subst (MayFinish (job_in g.P.Placement.seen c.args.self.now) c.args.pipe) (sym (ap (λ (h : HandView). h.actor) c.hand.view_is)) c.requires.all_put in (
      search rules,
      omega (arith, f.words, long, slice, c.requires.pipe),
      finishes_as _ _ _ _ f.right f.same f.parts _ _ _ c.args.pipe may.0 _ (omega (arith, long, slice)) (omega (arith, c.morsels-all.ensures.morsels, c.morsels-all.ensures.few)) may.1 c.hand.invariant.part may.2,
    )
