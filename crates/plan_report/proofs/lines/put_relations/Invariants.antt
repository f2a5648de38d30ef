use Rattle.std.proofs.Common.{◌≡◌, ◌++◌, length, take}
use Rattle.std.specs.Option.{option_map}
use Rattle.std.specs.List.{flat_map, range_with_len}
use Rattle.plan_report.specs.Report.{relation_line}
use Rattle.plan_report.specs.Run.{run_counts}
use Rattle.plan_report.proofs.lines.put_relations.Given as goal

abbrev pub invariant-loop-relation : goal.invariant-loop-relation
invariant-loop-relation l = l.out.items ≡ l.initial.out.items ++ flat_map (relation_line l.bound.query (option_map run_counts l.run)) (take l.relation (range_with_len 0 (length l.bound.query.table_of)))
