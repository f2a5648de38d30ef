use Rattle.std.proofs.Common.{length}
use Rattle.rpt_outside.proofs.Writing.{Wrote}
use Rattle.rpt_outside.proofs.stream.put_all.Given as goal

abbrev pub invariant-loop-rest : goal.invariant-loop-rest
invariant-loop-rest g l = Wrote (g.W.Write.contents l.fn.writer) (g.W.Write.contents l.writer) l.piece l.rest

abbrev pub decreases-loop-rest : goal.decreases-loop-rest
decreases-loop-rest g l = length l.rest
