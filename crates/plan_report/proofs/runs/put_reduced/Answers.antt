use Rattle.std.proofs.Common.{◌≡◌, ◌∙◌, ◌++◌, sym, subst, arith, length, map, ℕ}
use Rattle.std.specs.Prelude.{OnOk, slice_index}
use Rattle.std.specs.Fmt.{decimal}
use Rattle.std.specs.List.{range_with_len}
use Rattle.std.proofs.lemmas.List.FromFn.{get_or-map-range_with_len}
use Rattle.transfer_plan.specs.Kept.{kept_count}
use Rattle.plan_report.proofs.runs.put_reduced.Goals as goal

pub returns : goal.returns
returns c =
    let run = c.args.run.now in
    let n = length run.selected.now in
    let r = c.args.relation in
    let is : slice_index (map (kept_count run.transfer.now) (range_with_len 0 n)) r ≡ kept_count run.transfer.now r
    = get_or-map-range_with_len (kept_count run.transfer.now) 0 n r r 0 (omega (arith, c.requires.relation, c.requires.run.selected)) (omega arith) in
    subst (λ (k : ℕ). OnOk c.put_number.result (c.put_number.new.out.items ≡ c.args.out.now.items ++ decimal k)) (c.reduced.ensures ∙ sym is) c.put_number.ensures
