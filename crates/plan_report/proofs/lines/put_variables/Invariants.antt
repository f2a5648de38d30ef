use Rattle.std.proofs.Common.{◌≡◌, ◌++◌, take}
use Rattle.plan_report.specs.Report.{variable_lines}
use Rattle.plan_report.proofs.lines.put_variables.Given as goal

abbrev pub invariant-loop-variable : goal.invariant-loop-variable
invariant-loop-variable l = l.out.items ≡ l.initial.out.items ++ variable_lines l.bound.query (take l.variable l.bound.known.variables)
