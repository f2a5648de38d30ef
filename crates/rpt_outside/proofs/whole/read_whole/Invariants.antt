use Rattle.std.proofs.Common.{◌≡◌, ◌≤◌, ◌-◌, false, true, length}
use Rattle.std.specs.Io.KnownBytes.{Consumes}
use Rattle.rpt_outside.specs.Causes.{NeverFalls}
use Rattle.rpt_outside.proofs.whole.read_whole.Given as goal

abbrev pub invariant-loop-bytes : goal.invariant-loop-bytes
invariant-loop-bytes g l =
    let files = g.F.Files in
    record {
      room : length l.piece.items ≡ 65536;
      few : length l.bytes.items ≤ l.limit;
      so_far : Consumes (files.contents l.fn.files l.name) (files.left l.files) l.bytes.items;
      started : files.is_started l.files l.name ≡ true;
      there : files.is_missing l.fn.files l.name ≡ false;
      missing : files.is_missing l.files ≡ files.is_missing l.fn.files;
      contents : files.contents l.files ≡ files.contents l.fn.files;
      later : NeverFalls (files.faults l.fn.files) (files.faults l.files);
    }

abbrev pub decreases-loop-bytes : goal.decreases-loop-bytes
decreases-loop-bytes g l = l.limit - length l.bytes.items
