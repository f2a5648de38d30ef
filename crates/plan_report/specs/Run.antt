-- What the parts of a run tell.
-- Words of this crate's own contracts.
use Rattle.std.specs.Prelude.{◌≡◌, ℕ, ◌<◌, length, map}
use Rattle.std.specs.List.{range_with_len}
use Rattle.transfer_plan.specs.Kept.{CanTell, kept_count}
use Rattle.plan_report.specs.declared.runs.RunPart.{RunPart}
use Rattle.plan_report.specs.Report.{RunCounts}

-- the reduced rows of a relation are the items that the filters keep
abbrev pub run_counts : RunPart → RunCounts
run_counts run = record {
  filter = run.filter;
  rows = run.rows.now;
  selected = run.selected.now;
  reduced = map (kept_count run.transfer.now) (range_with_len 0 (length run.selected.now));
  prefixes = run.joined.now.counts;
}

-- a run over so many relations: it has the numbers of each one's rows, can tell which items the filters keep, and has as many prefixes
pub record IsRunOf (relations : ℕ) (run : RunPart) : Type 0 where
  pub rows : length run.rows.now ≡ relations
  pub selected : length run.selected.now ≡ relations
  pub told : (r : ℕ) → r < relations → CanTell run.transfer.now r
  pub prefixes : run.joined.now.width ≡ relations
