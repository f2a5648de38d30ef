use Rattle.std.proofs.Common.{refl, drop, take, ◌+◌, arith}
use Rattle.std.proofs.lemmas.Grind.{common_steps}
use Rattle.refusal_lines.specs.Message.{parts_text}
use Rattle.refusal_lines.proofs.LineFacts.{parts_text-at}
use Rattle.refusal_lines.proofs.Sinks.{Puts-after_text, Puts-broken}
use Rattle.refusal_lines.proofs.message.put_parts.Goals as goal

pub returns-in-Err : goal.returns-in-Err
returns-in-Err g c =
    let parts = c.args.parts.now in
    let i = c.loop-part.part-index in
    let broken = Puts-broken _ _ _ _ _ (parts_text (drop (i + 1) parts)) _ c.put_part.result _ c.in-Err.is refl c.put_part.ensures in
    Puts-after_text _ _ _ _ _ _ (parts_text (take i parts)) _ (parts_text parts) _ (parts_text-at parts i _ c.loop-part-test.true) c.loop-part.invariant.so_far c.loop-part.invariant.later broken

pub loop-part-preserved : goal.loop-part-preserved
loop-part-preserved g c = grind (arith, common_steps)
