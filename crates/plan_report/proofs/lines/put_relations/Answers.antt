use Rattle.std.proofs.Common.{◌<◌, ◌≤◌, arith, length}
use Rattle.std.specs.Option.{option_map}
use Rattle.std.specs.List.{range_with_len}
use Rattle.std.proofs.lemmas.List.FromFn.{length-range_with_len}
use Rattle.plan_report.specs.Report.{relation_line}
use Rattle.plan_report.specs.Run.{run_counts}
use Rattle.plan_report.proofs.TextFacts.{number-at, put-all, put-more}
use Rattle.plan_report.proofs.lines.put_relations.Goals as goal

pub loop-relation-preserved : goal.loop-relation-preserved
loop-relation-preserved c =
    let q = c.args.bound.now.query in
    let run = option_map run_counts c.args.run.now in
    let r = c.loop-relation.relation in
    let inside : r < length q.table_of = omega arith in
    put-more (relation_line q run) _ (range_with_len 0 (length q.table_of)) r _ c.loop-relation.invariant r _ (number-at (length q.table_of) r inside) c.in_ok-put_relation.ensures

pub returns : goal.returns
returns c =
    let q = c.args.bound.now.query in
    let run = option_map run_counts c.args.run.now in
    let past : length (range_with_len 0 (length q.table_of)) ≤ c.loop-relation.relation = omega (arith, length-range_with_len 0 (length q.table_of)) in
    put-all (relation_line q run) _ (range_with_len 0 (length q.table_of)) c.loop-relation.relation _ c.loop-relation.invariant past
