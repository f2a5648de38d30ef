use Rattle.std.proofs.Common.{◌*◌, arith, ap, sym, ◌∙◌}
use Rattle.std.proofs.lemmas.Grind.{common_steps}
use mathlib.Core.Logic.{dite}
use native.Mathlib.Decide.{dec_le}
use Rattle.transfer_core.specs.declared.plan.Pipe.{Pipe}
use Rattle.transfer_core.specs.declared.plan.Plan.{Plan}
use Rattle.transfer_core.specs.Actors.{holding}
use Rattle.filter_board.specs.Views.{HandView, shape_in}
use Rattle.transfer_pass.proofs.ListedFacts.{same_but_puts}
use Rattle.transfer_pass.proofs.MorselFacts.{first_in_range, morsel_of, before_next}
use Rattle.transfer_pass.proofs.PlanFacts.{indexed, read_places}
use Rattle.transfer_pass.proofs.morsels.work_morsel.Goals as goal

pub overflow_mul-start : goal.overflow_mul-start
overflow_mul-start g c =
    let plan = c.plan-plan.ensures.plan in
    let valid = c.plan-plan.ensures.made.valid in
    let pipe = indexed c.as_slice.result.now c.args.board.now.plan.pipes c.args.pipe c.index-as_slice-pipe.result (c.as_slice.ensures ∙ ap (λ (p : Plan g.row.P.Denot). p.pipes) plan) c.requires.pipe c.index-as_slice-pipe.is in
    let size = ap (λ (p : Plan g.row.P.Denot). c.args.morsel * p.morsel) plan in
    omega (arith, first_in_range c.args.morsel _ _ (omega (arith, valid.morsel.some)) c.requires.morsel, ap (λ (x : Pipe). x.items) pipe, size)

pub overflow_add-end : goal.overflow_add-end
overflow_add-end g c =
    let plan = c.plan-plan.ensures.plan in
    let valid = c.plan-plan.ensures.made.valid in
    let pipe = indexed c.as_slice.result.now c.args.board.now.plan.pipes c.args.pipe c.index-as_slice-pipe.result (c.as_slice.ensures ∙ ap (λ (p : Plan g.row.P.Denot). p.pipes) plan) c.requires.pipe c.index-as_slice-pipe.is in
    let size = ap (λ (p : Plan g.row.P.Denot). c.args.morsel * p.morsel) plan in
    omega (arith, first_in_range c.args.morsel _ _ (omega (arith, valid.morsel.some)) c.requires.morsel, ap (λ (x : Pipe). x.items) pipe, size, c.min.ensures)

pub work_chunk-requires-clause-places : goal.work_chunk-requires-clause-places
work_chunk-requires-clause-places g c = λ i low high.
    let plan = c.plan-plan.ensures.plan in
    let valid = c.plan-plan.ensures.made.valid in
    let pipe = indexed c.as_slice.result.now c.args.board.now.plan.pipes c.args.pipe c.index-as_slice-pipe.result (c.as_slice.ensures ∙ ap (λ (p : Plan g.row.P.Denot). p.pipes) plan) c.requires.pipe c.index-as_slice-pipe.is in
    let size = ap (λ (p : Plan g.row.P.Denot). c.args.morsel * p.morsel) plan in
    read_places (shape_in g.P.Placement.seen c.args.board.now) valid c.args.pipe c.requires.pipe c.as_slice-reads.result.now i (c.as_slice-reads.ensures ∙ ap (λ (x : Pipe). x.reads) pipe)
    (omega (arith, first_in_range c.args.morsel _ _ (omega (arith, valid.morsel.some)) c.requires.morsel, ap (λ (x : Pipe). x.items) pipe, size, c.min.ensures, c.min-in-chunks.ensures, high, c.chunks-test.true))

pub work_chunk-requires-clause-items : goal.work_chunk-requires-clause-items
work_chunk-requires-clause-items g c = λ i low high.
    let plan = c.plan-plan.ensures.plan in
    let size = ap (λ (p : Plan g.row.P.Denot). p.morsel) plan in
    let start = ap (λ (p : Plan g.row.P.Denot). c.args.morsel * p.morsel) plan in
    let pipe = indexed c.as_slice.result.now c.args.board.now.plan.pipes c.args.pipe c.index-as_slice-pipe.result (c.as_slice.ensures ∙ ap (λ (p : Plan g.row.P.Denot). p.pipes) plan) c.requires.pipe c.index-as_slice-pipe.is in
    let valid = c.plan-plan.ensures.made.valid in
    let of = morsel_of i c.args.morsel c.args.board.now.plan.morsel (omega (arith, start, low, c.chunks.invariant.start)) (omega (arith, start, size, c.min.ensures, high, c.min-in-chunks.ensures, c.chunks-test.true)) in record {
      pipe = c.requires.pipe;
      inside = omega (arith, first_in_range c.args.morsel _ _ (omega (arith, valid.morsel.some)) c.requires.morsel, ap (λ (x : Pipe). x.items) pipe, start, c.min.ensures, c.min-in-chunks.ensures, c.chunks-test.true);
      holds = ap (λ (h : HandView). h.actor.held) c.chunks.invariant.same ∙ c.requires.holds ∙ ap (holding c.args.pipe) (sym of);
    }

pub chunks-preserved : goal.chunks-preserved
chunks-preserved g c =
    let i = c.chunks.invariant in
    let puts = c.work_chunk.new.hand.actor.puts in record {
      start = omega (arith, i.start);
      end = omega (arith, c.min-in-chunks.ensures, c.chunks-test.true);
      same = same_but_puts c.work_chunk.new.hand c.chunks.hand c.args.hand.now puts c.work_chunk.ensures.same i.same;
      listed = λ k q it in_morsel less. dite (dec_le c.chunks.next k)
          (λ here. c.work_chunk.ensures.listed k here less q it)
          (λ before. c.work_chunk.ensures.keeps k q (i.listed k q it in_morsel (omega (arith, before))));
    }

pub finish-requires-clause-all_put : goal.finish-requires-clause-all_put
finish-requires-clause-all_put g c =
    let plan = c.plan-plan.ensures.plan in
    let valid = c.plan-plan.ensures.made.valid in
    let pipe = indexed c.as_slice.result.now c.args.board.now.plan.pipes c.args.pipe c.index-as_slice-pipe.result (c.as_slice.ensures ∙ ap (λ (p : Plan g.row.P.Denot). p.pipes) plan) c.requires.pipe c.index-as_slice-pipe.is in
    let size = ap (λ (p : Plan g.row.P.Denot). p.morsel) plan in
    let start = ap (λ (p : Plan g.row.P.Denot). c.args.morsel * p.morsel) plan in (
      c.args.morsel,
      ap (λ (h : HandView). h.actor.held) c.chunks.invariant.same ∙ c.requires.holds,
      λ i q it in_morsel. c.chunks.invariant.listed i q it in_morsel (omega (
        arith,
        before_next i c.args.morsel c.args.board.now.plan.morsel (omega (arith, valid.morsel.some)) in_morsel,
        it.1,
        ap (λ (x : Pipe). x.items) pipe,
        size,
        start,
        c.min.ensures,
        c.chunks-test.false,
        c.chunks.invariant.end,
      )),
    )

pub work_chunk-requires-clause-seen : goal.work_chunk-requires-clause-seen
work_chunk-requires-clause-seen c = grind (arith, common_steps)

pub overflow_cast-writes : goal.overflow_cast-writes
overflow_cast-writes c = grind (arith, common_steps)

pub overflow_sub-items : goal.overflow_sub-items
overflow_sub-items c = grind (arith, common_steps)

pub work_chunk-requires-clause-writes : goal.work_chunk-requires-clause-writes
work_chunk-requires-clause-writes c = grind (arith, common_steps)
