use Rattle.std.proofs.Common.{◌<◌, ◌≤◌, arith, length, refl}
use Rattle.std.specs.List.{enumerate_from}
use Rattle.std.proofs.lemmas.List.FromFn.{length-enumerate_from}
use Rattle.std.proofs.lemmas.Option.{slice_get_read}
use Rattle.plan_report.specs.Report.{prefix_line}
use Rattle.plan_report.proofs.TextFacts.{numbered-at, put-all, put-more}
use Rattle.plan_report.proofs.trees.put_prefixes.Goals as goal

pub loop-index-preserved : goal.loop-index-preserved
loop-index-preserved c =
    let lists = c.args.lists.now in
    let i = c.loop-index.index in
    let inside : i < length lists = omega arith in
    let at = slice_get_read lists (length lists) i c.index-lists-index.result refl inside c.index-lists-index.is in
    put-more (prefix_line c.args.bound.now.query) _ (enumerate_from 1 lists) i _ c.loop-index.invariant _ _ (numbered-at lists i c.index-lists-index.result at) c.in_ok-put_prefix.ensures

pub returns : goal.returns
returns c =
    let lists = c.args.lists.now in
    let past : length (enumerate_from 1 lists) ≤ c.loop-index.index = omega (arith, length-enumerate_from 1 lists) in
    put-all (prefix_line c.args.bound.now.query) _ (enumerate_from 1 lists) c.loop-index.index _ c.loop-index.invariant past
