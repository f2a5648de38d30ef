use Rattle.std.proofs.Common.{arith}
use Rattle.filter_board.proofs.MarkFacts.{either_is}
use Rattle.filter_board.proofs.sharing.in_either.Goals as goal

pub returns : goal.returns
returns c = let t = c.loop-pipe.invariant in either_is _ _ _ (omega (arith, t.first, t.long)) (omega (arith, t.second, t.long)) (λ k l. t.made k (omega (arith, t.long, c.loop-pipe-test.false)))
