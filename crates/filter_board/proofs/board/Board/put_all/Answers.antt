use Rattle.std.proofs.Common.{◌+◌, ◌<◌, length, take, take_all, ℕ, arith, ap, sym, ◌∙◌, subst}
use Rattle.std.proofs.lemmas.Grind.{common_steps, elements}
use Rattle.std.specs.Prelude.{bit_or, slice_range}
use Rattle.filter_board.specs.Runs.{with_all_put}
use Rattle.filter_board.specs.Views.{HandView, IsRun, job_in, with_actor}
use Rattle.filter_board.proofs.RunFacts.{may_part, put_more, run_more, run_none}
use Rattle.filter_board.proofs.board.Board.put_all.Goals as goal
use Rattle.filter_board.proofs.board.Board.put_all.Goals.{then-spot-at, else-spot-at}

pub loop-next-preserved : goal.loop-next-preserved
loop-next-preserved g c =
    let i = c.loop-next.invariant in
    let seen = g.P.Placement.seen in let b = c.args.self.now in let p = c.args.pipe in let q = c.args.port in
    let items = c.args.items.now in let n = c.loop-next.next in
    let less : n < length items = c.loop-next-test.true in
    elim c.if-spot-at.branch [
      | then-spot-at w ↦ record {
        hand = w.hand-is ∙ put_more w.put_run.new.hand c.loop-next.hand c.args.hand.now q items c.loop-next.start n (omega (arith, i.start)) i.hand w.put_run.ensures
            ∙ ap (λ k. with_actor (with_all_put (take k items) q) c.args.hand.now) (sym w.start-is);
        run = subst (λ (x : ℕ × ℕ × ℕ). IsRun seen b p q (slice_range items x.0 (n + 1)) x.1 (bit_or x.2 c.spot-spot.result.1)) (λ k. (sym w.start-is k, sym w.at-is k, sym w.mask-is k))
            (run_more seen b p q items n n c.spot-spot.result.0 0 c.spot-spot.result.1 (omega arith) less (run_none seen b p q items n c.spot-spot.result.0) c.spot-spot.ensures.at c.spot-spot.ensures.mask);
        inside = omega (arith, w.at-is, c.spot-spot.ensures.inside);
        start = omega (arith, w.start-is);
        end = omega (arith, less);
      }
      | else-spot-at w ↦ record {
        hand = w.hand-is ∙ i.hand ∙ ap (λ k. with_actor (with_all_put (take k items) q) c.args.hand.now) (sym w.start-is);
        run = subst (λ (x : ℕ × ℕ × ℕ). IsRun seen b p q (slice_range items x.0 (n + 1)) x.1 (bit_or x.2 c.spot-spot.result.1)) (λ k. (sym w.start-is k, sym w.at-is k, sym w.mask-is k))
            (run_more seen b p q items c.loop-next.start n c.loop-next.at c.loop-next.mask c.spot-spot.result.1 (omega (arith, i.start)) less i.run (sym w.if-spot-at.false ∙ c.spot-spot.ensures.at) c.spot-spot.ensures.mask);
        inside = omega (arith, w.at-is, i.inside);
        start = omega (arith, w.start-is, i.start);
        end = omega (arith, less);
      }
    ]

pub put_run-requires-2-clause-items : goal.put_run-requires-2-clause-items
put_run-requires-2-clause-items g c = let items = c.args.items.now in
    may_part (job_in g.P.Placement.seen c.args.self.now) c.args.pipe c.args.port c.loop-next.hand.actor c.args.hand.now.actor items c.loop-next.start (length items)
    (ap (λ (h : HandView). h.actor.held) c.loop-next.invariant.hand) c.requires.items

pub returns : goal.returns
returns g c = let items = c.args.items.now in
    put_more c.put_run-2.new.hand c.loop-next.hand c.args.hand.now c.args.port items c.loop-next.start (length items) (omega (arith, c.loop-next.invariant.start, c.loop-next.invariant.end)) c.loop-next.invariant.hand c.put_run-2.ensures
    ∙ ap (λ l. with_actor (with_all_put l c.args.port) c.args.hand.now) (take_all (length items) items (omega arith))

pub put_run-requires-clause-run : goal.put_run-requires-clause-run
put_run-requires-clause-run g c = grind (arith, common_steps)

pub put_run-requires-2-clause-run : goal.put_run-requires-2-clause-run
put_run-requires-2-clause-run g c = grind (arith, common_steps)

pub returns-then-is_empty : goal.returns-then-is_empty
returns-then-is_empty g c = grind (arith, common_steps)

pub put_run-requires-clause-items : goal.put_run-requires-clause-items
put_run-requires-clause-items g c = grind (arith, elements)
