use Rattle.std.proofs.Common.{sym, take, drop}
use Rattle.std.proofs.lemmas.List.{take-append-drop}
use Rattle.std.proofs.lemmas.Grind.{common_steps}
use Rattle.std.proofs.Common.{arith}
use Rattle.rpt_outside.proofs.memory_sink.take_front.Goals as goal

pub returns-clause-part : goal.returns-clause-part
returns-clause-part c = record {
  part = take c.args.count c.args.piece.now;
  rest = drop c.args.count c.args.piece.now;
  split = sym (take-append-drop c.args.count c.args.piece.now);
  appended = grind (arith, common_steps);
}
