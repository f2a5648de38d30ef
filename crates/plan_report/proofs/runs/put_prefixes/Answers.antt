use Rattle.std.proofs.Common.{◌≡◌, ◌∙◌, ◌+◌, ◌-◌, ◌<◌, ◌≤◌, Some, ap, sym, arith, length}
use Rattle.std.specs.Prelude.{slice_index}
use Rattle.std.specs.List.{enumerate_from, slice_get}
use Rattle.std.proofs.lemmas.List.FromFn.{length-enumerate_from}
use Rattle.std.proofs.lemmas.Option.{slice_get-get_or}
use Rattle.plan_report.specs.Report.{tuples_line}
use Rattle.plan_report.proofs.TextFacts.{numbered-at, put-all, put-more}
use Rattle.plan_report.proofs.runs.put_prefixes.Goals as goal

pub loop-index-preserved : goal.loop-index-preserved
loop-index-preserved c =
    let counts = c.args.joined.now.counts in
    let i = c.loop-index.index in
    let inside : i < length counts = omega (arith, c.loop-index-test.true, c.width-index-end.ensures.width, c.width-index-end.ensures.whole.counted) in
    let back : i + 1 - 1 ≡ i = omega arith in
    let at : slice_get counts i ≡ Some c.count.result = slice_get-get_or counts i 0 inside ∙ ap (λ k. Some k) (sym (c.count.ensures ∙ ap (λ k. slice_index counts k) back)) in
    put-more tuples_line _ (enumerate_from 1 counts) i _ c.loop-index.invariant (i + 1, c.count.result) _ (numbered-at counts i c.count.result at) c.in_ok-put_prefix.ensures

pub returns : goal.returns
returns c =
    let counts = c.args.joined.now.counts in
    let past : length (enumerate_from 1 counts) ≤ c.loop-index.index =
    omega (arith, c.loop-index-test.false, c.width-index-end.ensures.width, c.width-index-end.ensures.whole.counted, length-enumerate_from 1 counts) in
    put-all tuples_line _ (enumerate_from 1 counts) c.loop-index.index _ c.loop-index.invariant past
