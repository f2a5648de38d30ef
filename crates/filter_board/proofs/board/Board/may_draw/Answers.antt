use Rattle.std.proofs.Common.{◌<◌, List, length, arith, ap, sym, ◌∙◌}
use Rattle.transfer_core.specs.declared.plan.Pipe.{Pipe}
use Rattle.transfer_core.specs.Plans.{no_pipe, pipe_at}
use Rattle.transfer_core.specs.States.{are_writers_marked}
use Rattle.transfer_core.proofs.Lists.{at_index, place_of_at}
use Rattle.filter_board.specs.Views.{BoardView, HandView}
use Rattle.filter_board.proofs.ListFacts.{writers_marked}
use Rattle.filter_board.proofs.board.Board.may_draw.Goals as goal

pub returns : goal.returns
returns g c =
    let pipes = c.as_slice-pipes.ensures ∙ ap (λ (b : BoardView g.row.P.Denot). b.plan.pipes) c.self.view_is in
    let less : c.args.pipe < length c.as_slice-pipes.result.now = omega (arith, c.requires, ap (λ (l : List Pipe). length l) pipes) in
    let here = place_of_at c.as_slice-pipes.result.now c.args.pipe c.index-pipes-pipe.result no_pipe (at_index c.as_slice-pipes.result.now c.args.pipe c.index-pipes-pipe.result less c.index-pipes-pipe.is) in
    let reads = c.as_slice-reads.ensures ∙ ap (λ (x : Pipe). x.reads) (sym c.index-pipes-pipe.is) ∙ ap (λ (x : Pipe). x.reads) (sym here) ∙ ap (λ (l : List Pipe). (pipe_at l c.args.pipe).reads) pipes in
    let seen = c.hand.invariant.seen_are ∙ ap (λ (h : HandView). h.actor.seen) c.hand.view_is in
    let all = c.are_seen.ensures ∙ λ i. are_writers_marked (seen i) (pipes i) (reads i) in
    let t = writers_marked c.args.hand.now.actor.seen c.args.self.now.plan.pipes (pipe_at c.args.self.now.plan.pipes c.args.pipe).reads in
    (λ e. t.0 (sym all ∙ e), λ h. all ∙ t.1 h)
