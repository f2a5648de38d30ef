use Rattle.std.proofs.Common.{◌≡◌, ◌≤◌, take}
use Rattle.std.specs.Prelude.{count_by}
use Rattle.std.specs.List.{range_with_len}
use Rattle.transfer_plan.specs.Kept.{has_bit}
use Rattle.transfer_pass.proofs.kept.TransferRun.reduced.Given as goal

abbrev pub invariant-loop-item : goal.invariant-loop-item
invariant-loop-item l = (l.count ≡ count_by (has_bit l.self.words l.kept-inside.region) (take l.item (range_with_len 0 l.kept-inside.items))) × (l.count ≤ l.item)
