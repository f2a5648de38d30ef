use Rattle.std.proofs.Common.{◌≡◌, ◌∙◌, [], true, false, length, ap, sym, arith}
use Rattle.std.specs.Prelude.{replicate}
use Rattle.std.proofs.Math.ListN.{set}
use Rattle.predicate.specs.Truth.{is_true}
use Rattle.predicate.proofs.MarkFacts.{marks, marks-start, marks-length, marks-set, marks-skip, marks-whole}
use Rattle.predicate.proofs.selection.select.Goals as goal
use Rattle.predicate.proofs.selection.select.Goals.{then-holds, else-holds}

pub loop-row-init : goal.loop-row-init
loop-row-init c =
    c.in_ok-bits.ensures ∙ ap (λ n. replicate n false) c.rows-rows.ensures.count ∙ marks-start (is_true c.args.pred.now) c.args.table.now.rows

pub set-requires : goal.set-requires
set-requires c =
    let same = ap length c.loop-row.invariant in
    omega (arith, same, c.rows-rows.ensures.count, marks-length (is_true c.args.pred.now) c.args.table.now.rows c.loop-row.row (omega (arith, c.rows-rows.ensures.count)))

pub loop-row-preserved : goal.loop-row-preserved
loop-row-preserved c =
    let test = is_true c.args.pred.now in
    let rows = c.args.table.now.rows in
    elim c.if-holds.branch [
      | then-holds w ↦ w.bits-is ∙ w.set.ensures ∙ ap (λ b. set b c.loop-row.row true) c.loop-row.invariant
          ∙ marks-set test rows c.loop-row.row [] (omega (arith, c.rows-rows.ensures.count)) (sym c.holds.ensures ∙ w.if-holds.true)
      | else-holds w ↦ w.bits-is ∙ c.loop-row.invariant
          ∙ marks-skip test rows c.loop-row.row [] (omega (arith, c.rows-rows.ensures.count)) (sym c.holds.ensures ∙ w.if-holds.false)
    ]

pub returns : goal.returns
returns c =
    let end : c.loop-row.row ≡ length c.args.table.now.rows = omega (arith, c.rows-rows.ensures.count) in
    c.loop-row.invariant ∙ ap (marks (is_true c.args.pred.now) c.args.table.now.rows) end ∙ marks-whole (is_true c.args.pred.now) c.args.table.now.rows
