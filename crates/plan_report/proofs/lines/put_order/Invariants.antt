use Rattle.std.proofs.Common.{◌≡◌, ◌++◌, take}
use Rattle.std.specs.List.{flat_map}
use Rattle.plan_report.specs.Report.{next_text}
use Rattle.plan_report.proofs.lines.put_order.Given as goal

abbrev pub invariant-loop-relation : goal.invariant-loop-relation
invariant-loop-relation l = l.out.items ≡ l.initial.out.items ++ flat_map (next_text l.bound.query) (take l.relation-index l.order)
