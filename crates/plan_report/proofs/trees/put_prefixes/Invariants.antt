use Rattle.std.proofs.Common.{◌≡◌, ◌++◌, take}
use Rattle.std.specs.List.{enumerate_from, flat_map}
use Rattle.plan_report.specs.Report.{prefix_line}
use Rattle.plan_report.proofs.trees.put_prefixes.Given as goal

abbrev pub invariant-loop-index : goal.invariant-loop-index
invariant-loop-index l = l.out.items ≡ l.initial.out.items ++ flat_map (prefix_line l.bound.query) (take l.index (enumerate_from 1 l.lists))
