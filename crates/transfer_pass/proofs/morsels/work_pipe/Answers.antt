use Rattle.std.proofs.Common.{◌-◌, ◌<◌, ◌++◌, ℕ, List, ap, sym, ◌∙◌, subst}
use Rattle.transfer_core.specs.Actors.{holding, morsels_of}
use Rattle.filter_board.specs.Views.{HandView, job_in}
use Rattle.transfer_pass.proofs.Drawn.{after_all, fewer_left}
use Rattle.transfer_pass.proofs.morsels.work_pipe.Goals as goal

pub loop-morsel-smaller : goal.loop-morsel-smaller
loop-morsel-smaller g c =
    let all = (job_in g.P.Placement.seen c.args.board.now).morsels c.args.pipe in
    let drawn = c.in-Some.ensures in
    let finished = ap (λ (h : HandView). h.actor.finished) c.work_morsel.ensures
    ∙ ap (λ (l : List (ℕ × ℕ)). l ++ holding c.args.pipe c.in-Some.morsel) (ap (λ (h : HandView). h.actor.finished) drawn.held) in
    subst (λ l. all - after_all (morsels_of c.args.pipe l) < all - after_all (morsels_of c.args.pipe c.loop-morsel.hand.actor.finished)) (sym finished)
    (fewer_left c.args.pipe c.in-Some.morsel all c.loop-morsel.hand.actor drawn.within drawn.rising)
