use Rattle.std.proofs.Common.{◌≡◌, [], arith}
use Rattle.std.proofs.lemmas.Grind.{common_steps}
use Rattle.rpt_outside.proofs.Writing.{more_written, all_written}
use Rattle.rpt_outside.proofs.stream.put_all.Goals as goal

pub loop-rest-preserved : goal.loop-rest-preserved
loop-rest-preserved g c = more_written _ _ _ _ _ _ c.loop-rest.invariant c.in-Ok.ensures.bytes

pub returns-in-Ok-flush : goal.returns-in-Ok-flush
returns-in-Ok-flush g c =
    let none : c.loop-rest.rest.now ≡ [] = grind (arith, common_steps) in
    all_written _ _ _ _ _ c.loop-rest.invariant none c.in-Ok-flush.ensures.bytes
