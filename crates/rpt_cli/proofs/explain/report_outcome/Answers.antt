use Rattle.std.proofs.Common.{refl}
use Rattle.std.proofs.lemmas.Result.{IfOk-weaker}
use Rattle.join_laws.specs.Selected.{selected_counts}
use Rattle.rpt_engine.specs.Answered.{plan_of}
use Rattle.rpt_cli.proofs.ReportFacts.{explain-is, plan-seen, run-of}
use Rattle.rpt_cli.proofs.explain.report_outcome.Goals as goal

pub report_on-requires-clause-plan : goal.report_on-requires-clause-plan
report_on-requires-clause-plan c =
    let b = c.args.ready.now.bound in
    let sizes = selected_counts b c.args.tables.now in
    (sizes, plan-seen b.known.sets sizes c.args.ready.now.options.order (plan_of c.args.outcome.now) _ _ c.as_slice-2.ensures c.as_slice-3.ensures c.requires.tells.plan)

pub report_on-requires-clause-run : goal.report_on-requires-clause-run
report_on-requires-clause-run c =
    run-of c.args.ready.now.bound c.args.tables.now c.args.ready.now.options c.args.outcome.now c.requires.tells c.args.rows.now c.as_slice.result.now c.requires.rows c.as_slice.ensures
    _ refl refl refl refl

pub returns : goal.returns
returns c =
    IfOk-weaker c.report_on.result _ _
    (λ text said.
    explain-is c.args.ready.now.bound c.args.tables.now c.args.ready.now.options c.args.outcome.now c.requires.tells c.args.rows.now c.as_slice.result.now c.requires.rows c.as_slice.ensures
    text.items _ _ c.as_slice-2.ensures c.as_slice-3.ensures said)
    c.report_on.ensures
