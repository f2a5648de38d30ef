use Rattle.std.proofs.Common.{◌∙◌, arith, sym}
use Rattle.filter_board.proofs.ListFacts.{writer_past}
use Rattle.transfer_core.proofs.AllowedFacts.{writer_next, writer_here}
use Rattle.filter_board.proofs.readiness.writer.Goals as goal

pub returns-then-writes : goal.returns-then-writes
returns-then-writes c = let x = c.index-pipes-i.result in
    omega (arith, c.loop-i.invariant, writer_here c.args.pipes.now c.loop-i.i c.args.region x c.loop-i-test.true c.index-pipes-i.is (sym c.writes.ensures ∙ c.if-writes.true))

pub loop-i-preserved : goal.loop-i-preserved
loop-i-preserved c = let x = c.index-pipes-i.result in
    omega (arith, c.loop-i.invariant, writer_next c.args.pipes.now c.loop-i.i c.args.region x c.loop-i-test.true c.index-pipes-i.is (sym c.writes.ensures ∙ c.if-writes.false))

pub returns : goal.returns
returns c = omega (arith, c.loop-i.invariant, c.loop-i-test.false, writer_past c.args.pipes.now c.loop-i.i c.args.region (omega (arith, c.loop-i-test.false)))
