use Rattle.std.proofs.Common.{◌∙◌, ap, subst, sym, arith, length, List, ℕ}
use Rattle.std.proofs.lemmas.Grind.{common_steps}
use Rattle.std.specs.Prelude.{IfSome, None, replicate}
use Rattle.std.proofs.lemmas.List.{take-replicate}
use Rattle.join_graph.specs.JoinList.{IsAcyclic}
use Rattle.rpt_base.specs.Orders.{IsOrder}
use Rattle.plan_report.specs.Report.{report_of}
use Rattle.rpt_engine.specs.Planned.{no_sizes}
use Rattle.rpt_cli.proofs.PlannedFacts.{plan-unsized, report-Gives}
use Rattle.rpt_cli.proofs.ReportFacts.{plan-seen}
use Rattle.rpt_cli.proofs.check.check.Goals as goal

pub plan_for-requires-clause-acyclic : goal.plan_for-requires-clause-acyclic
plan_for-requires-clause-acyclic c = subst (λ (vs : List (List ℕ)). IsAcyclic vs) (sym c.requires.graph) c.requires.acyclic

pub plan_for-requires-clause-order : goal.plan_for-requires-clause-order
plan_for-requires-clause-order c =
    subst (λ (vs : List (List ℕ)). IfSome c.args.ready.now.options.order (λ order. IsOrder (length vs) order)) (sym c.requires.graph) c.requires.order

pub report_on-requires-clause-plan : goal.report_on-requires-clause-plan
report_on-requires-clause-plan c =
    let bound = c.args.ready.now.bound in
    let sets = bound.known.sets in
    let is =
    plan-unsized c.args.ready.now.prepared.graph bound.known.sets _ c.args.ready.now.options.order c.in_ok-plan.plan c.requires.graph
    (take-replicate c.relations-relations.result 16 0 (omega (arith, c.relations-relations.ensures.count, c.relations-relations.ensures.limit))
    ∙ ap (λ (n : ℕ). replicate n 0) (c.relations-relations.ensures.count ∙ sym c.relations-relations.ensures.sets)) c.in_ok-plan.ensures.plan in
    let order = c.args.ready.now.options.order in (
      no_sizes sets,
      plan-seen sets (no_sizes sets) order c.in_ok-plan.plan c.as_slice-order.result.now c.as_slice-lists.result.now c.as_slice-order.ensures c.as_slice-lists.ensures is,
    )

pub returns : goal.returns
returns c =
    let bound = c.args.ready.now.bound in
    let is =
    plan-unsized c.args.ready.now.prepared.graph bound.known.sets _ c.args.ready.now.options.order c.in_ok-plan.plan c.requires.graph
    (take-replicate c.relations-relations.result 16 0 (omega (arith, c.relations-relations.ensures.count, c.relations-relations.ensures.limit))
    ∙ ap (λ (n : ℕ). replicate n 0) (c.relations-relations.ensures.count ∙ sym c.relations-relations.ensures.sets)) c.in_ok-plan.ensures.plan in
    report-Gives c.has_plan.ensures.one bound c.args.ready.now.options.order c.in_ok-plan.plan c.in_ok-text.text.items is
    (c.in_ok-text.ensures
    ∙ ap (λ (o : List ℕ). report_of bound.query bound.known c.in_ok-plan.plan.tree o c.as_slice-lists.result.now None) c.as_slice-order.ensures
    ∙ ap (λ lists. report_of bound.query bound.known c.in_ok-plan.plan.tree c.in_ok-plan.plan.order lists None) c.as_slice-lists.ensures)

pub plan_for-requires-clause-sizes : goal.plan_for-requires-clause-sizes
plan_for-requires-clause-sizes c = grind (arith, common_steps)
