use Rattle.std.proofs.Common.{◌∙◌}
use Rattle.rpt_cli.proofs.ReportFacts.{plan-lists, plan-order_below, plan-order_each}
use Rattle.rpt_cli.proofs.reports.report_on.Goals as goal

pub report-requires-clause-graph : goal.report-requires-clause-graph
report-requires-clause-graph c = c.requires.ready.graph

pub report-requires-clause-tree : goal.report-requires-clause-tree
report-requires-clause-tree c = c.requires.plan.1.tree.joins.parents

pub report-requires-clause-order_length : goal.report-requires-clause-order_length
report-requires-clause-order_length c =
    (plan-order_each c.args.ready.now.bound c.args.ready.now.options _ c.requires.plan c.relations-relations.ensures.sets c.requires.ready.order).count

pub report-requires-clause-order : goal.report-requires-clause-order
report-requires-clause-order c =
    plan-order_below c.args.ready.now.bound c.args.ready.now.options _ c.requires.plan c.relations-relations.ensures.sets c.requires.ready.order

pub report-requires-clause-lists_length : goal.report-requires-clause-lists_length
report-requires-clause-lists_length c = c.requires.plan.1.lists.count ∙ c.relations-relations.ensures.sets

pub report-requires-clause-lists : goal.report-requires-clause-lists
report-requires-clause-lists c = plan-lists c.args.ready.now.bound c.args.ready.now.options _ c.requires.plan c.relations-relations.ensures.sets
