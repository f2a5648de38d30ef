use Rattle.std.proofs.Common.{◌≡◌, ◌+◌, drop}
use Rattle.transfer_core.specs.Job.{writer}
use Rattle.filter_board.proofs.readiness.writer.Given as goal

abbrev pub invariant-loop-i : goal.invariant-loop-i
invariant-loop-i l = writer l.pipes l.region ≡ l.i + writer (drop l.i l.pipes) l.region
