use Rattle.std.proofs.Common.{◌≡◌, ◌<◌, arith, ap, sym, ◌∙◌, ℕ, List, length, get_or}
use Rattle.std.specs.List.{range_with_len}
use Rattle.std.proofs.lemmas.List.FromFn.{get_or-range_with_len, length-range_with_len}
use Rattle.std.proofs.lemmas.List.Sums.{count_by_more_no, count_by_more_yes}
use Rattle.std.specs.Prelude.{count_by}
use Rattle.std.proofs.lemmas.List.{take_all}
use Rattle.transfer_plan.specs.Kept.{Run, Written, has_bit, kept_among}
use Rattle.transfer_pass.proofs.kept.TransferRun.reduced.Goals as goal
use Rattle.transfer_pass.proofs.kept.TransferRun.reduced.Goals.{then-has_item, else-has_item}

pub loop-item-preserved : goal.loop-item-preserved
loop-item-preserved c =
    let i = c.loop-item.invariant in let item = c.loop-item.item in let r = c.kept.inside.region in
    let xs = range_with_len 0 c.kept.inside.items in
    let p = has_bit c.args.self.now.words r in
    let less : item < length xs = omega (arith, c.loop-item-test.true, length-range_with_len 0 c.kept.inside.items) in
    let at : get_or xs item 0 ≡ item = omega (arith, get_or-range_with_len 0 c.kept.inside.items item 0 c.loop-item-test.true) in
    let is : p (get_or xs item 0) ≡ c.has_item.result = ap p at ∙ ap (λ (run : Run). has_bit run.words r item) (sym c.self.view_is) ∙ sym c.has_item.ensures in
    elim c.if-has_item.branch [
      | then-has_item w ↦ (omega (arith, w.count-is, i.0, count_by_more_yes p xs item 0 less (is ∙ w.if-has_item.true)), omega (arith, w.count-is, i.1))
      | else-has_item w ↦ (omega (arith, w.count-is, i.0, count_by_more_no p xs item 0 less (is ∙ w.if-has_item.false)), omega (arith, w.count-is, i.1))
    ]

pub returns : goal.returns
returns c =
    let rel = c.args.relation in let item = c.loop-item.item in
    let kept = c.kept.view_is ∙ c.kept_of-kept.ensures ∙ ap (kept_among rel) c.as_slice.ensures ∙ ap (λ (run : Run). kept_among rel run.pipes) c.self.view_is in
    let xs = range_with_len 0 c.kept.inside.items in
    c.loop-item.invariant.0
    ∙ ap (λ (l : List ℕ). count_by (has_bit c.args.self.now.words c.kept.inside.region) l) (take_all item xs (omega (arith, c.loop-item-test.false, length-range_with_len 0 c.kept.inside.items)))
    ∙ ap (λ (k : Written). count_by (has_bit c.args.self.now.words k.region) (range_with_len 0 k.items)) kept
