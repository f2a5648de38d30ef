use Rattle.std.proofs.Common.{◌≡◌, ◌++◌, take}
use Rattle.std.specs.List.{enumerate_from, flat_map}
use Rattle.plan_report.specs.Report.{tuples_line}
use Rattle.plan_report.proofs.runs.put_prefixes.Given as goal

abbrev pub invariant-loop-index : goal.invariant-loop-index
invariant-loop-index l = l.out.items ≡ l.initial.out.items ++ flat_map tuples_line (take l.index (enumerate_from 1 l.joined.counts))
