use Rattle.std.proofs.Common.{◌≡◌, filter, map, take}
use Rattle.std.specs.Prelude.{slice_index}
use Rattle.std.specs.List.{range_with_len}
use Rattle.transfer_plan.specs.Kept.{has_bit}
use Rattle.transfer_pass.proofs.kept.TransferRun.kept_rows.Given as goal

abbrev pub invariant-loop-item : goal.invariant-loop-item
invariant-loop-item l = l.list.items ≡ map (slice_index l.rows) (filter (has_bit l.self.words l.kept-inside.region) (take l.item (range_with_len 0 l.kept-inside.items)))
