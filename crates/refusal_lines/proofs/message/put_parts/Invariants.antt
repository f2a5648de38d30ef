use Rattle.std.proofs.Common.{◌≤◌, take}
use Rattle.std.specs.Io.KnownBytes.{Appends}
use Rattle.refusal_lines.specs.Message.{parts_text}
use Rattle.refusal_lines.proofs.message.put_parts.Given as goal

abbrev pub invariant-loop-part : goal.invariant-loop-part
invariant-loop-part g l =
    let sink = g.M.Sink in
    record {
      so_far : Appends (sink.taken l.fn.sink) (sink.taken l.sink) (parts_text (take l.part-index l.parts));
      later : sink.faults l.fn.sink ≤ sink.faults l.sink;
    }
