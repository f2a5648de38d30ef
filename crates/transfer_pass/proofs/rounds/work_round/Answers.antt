use Rattle.std.proofs.Common.{length, List, arith, ap, ◌∙◌}
use Rattle.std.proofs.lemmas.Grind.{common_steps}
use Rattle.transfer_core.specs.declared.plan.Pipe.{Pipe}
use Rattle.transfer_core.specs.declared.plan.Plan.{Plan}
use Rattle.filter_board.specs.Views.{shape_in}
use Rattle.transfer_pass.proofs.PlanFacts.{reads_first}
use Rattle.transfer_pass.proofs.rounds.work_round.Goals as goal

pub returns-clause-told : goal.returns-clause-told
returns-clause-told g c n less seen p before =
    let s = shape_in g.P.Placement.seen c.args.board.now in
    let all = ap (λ (l : List Pipe). length l) (c.as_slice.ensures ∙ ap (λ (x : Plan g.row.P.Denot). x.pipes) c.plan.ensures.plan) in
    let few = c.plan.ensures.made.valid.few in
    c.loop-pipe.invariant.told p (omega (arith, c.loop-pipe-test.false, c.loop-pipe.auto.pipe-end, all, few))
    (λ o e. seen o (omega (arith, reads_first s c.plan.ensures.made.valid p (omega arith) o e)))

pub look_before-requires-clause-pipe : goal.look_before-requires-clause-pipe
look_before-requires-clause-pipe c = grind (arith, common_steps)
