use Rattle.std.proofs.Common.{◌≤◌, ◌<◌, ◌-◌, ◌≡◌, ℕ, length, get_or, false, Vec, Global}
use Rattle.std.specs.Str.{bytes_eq}
use Rattle.rpt_outside.proofs.memory_files.place_of.Given as goal

abbrev pub invariant-loop-at : goal.invariant-loop-at
invariant-loop-at l = record {
  bound : l.at ≤ length l.files;
  none : (d : Vec ℕ Global × Vec ℕ Global) (k : ℕ) → k < l.at → bytes_eq (get_or l.files k d).0.items l.name ≡ false;
}

abbrev pub decreases-loop-at : goal.decreases-loop-at
decreases-loop-at l = length l.files - l.at
