use Rattle.std.proofs.Common.{arith}
use Rattle.std.proofs.lemmas.Grind.{common_steps}
use Rattle.plan_report.specs.Report.{variable_line}
use Rattle.plan_report.proofs.ColumnFacts.{variable-named}
use Rattle.plan_report.proofs.TextFacts.{put-more}
use Rattle.plan_report.proofs.lines.put_variables.Goals as goal

pub put_variable-requires : goal.put_variable-requires
put_variable-requires c = variable-named c.args.bound.now.query c.args.bound.now.known c.requires c.loop-variable.variable c.columns_of.result.now c.columns_of.ensures

pub loop-variable-preserved : goal.loop-variable-preserved
loop-variable-preserved c =
    put-more (variable_line c.args.bound.now.query) _ c.args.bound.now.known.variables c.loop-variable.variable _ c.loop-variable.invariant
    c.columns_of.result.now _ c.columns_of.ensures c.in_ok-put_variable.ensures

pub returns : goal.returns
returns c = grind (arith, common_steps)
