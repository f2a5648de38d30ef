use Rattle.std.proofs.Common.{length, ◌++◌, ◌≤◌, ◌≡◌, List, ℕ}
use Rattle.std.specs.Io.KnownBytes.{Appends}
use Rattle.refusal_lines.proofs.pieces.put_pieces.Given as goal

abbrev pub invariant-loop-rest : goal.invariant-loop-rest
invariant-loop-rest g l =
    let sink = g.S.Sink in
    record {
      so_far : (done : List ℕ) × (l.fn.text ≡ done ++ l.rest) × Appends (sink.taken l.fn.sink) (sink.taken l.sink) done;
      later : sink.faults l.fn.sink ≤ sink.faults l.sink;
    }

abbrev pub decreases-loop-rest : goal.decreases-loop-rest
decreases-loop-rest g l = length l.rest
