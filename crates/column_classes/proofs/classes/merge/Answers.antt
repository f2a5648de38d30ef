use Rattle.std.proofs.Common.{◌≡◌, ◌<◌, ◌∙◌, ap, sym, arith, set, get_or, length}
use Rattle.std.proofs.lemmas.List.{get_or_default}
use Rattle.std.proofs.lemmas.List.Edits.{map_over_more}
use Rattle.column_classes.specs.Labels.{merged}
use Rattle.column_classes.specs.declared.classes.Labelled.{Labelled}
use Rattle.column_classes.proofs.LabelFacts.{merged-no, merged-yes}
use Rattle.column_classes.proofs.PlaceFacts.{no_place}
use Rattle.column_classes.proofs.classes.merge.Goals as goal
use Rattle.column_classes.proofs.classes.merge.Goals.{then-place-greater, else-place-greater}

pub loop-place-preserved : goal.loop-place-preserved
loop-place-preserved c =
    let ys = c.loop-place.places in
    let i = c.loop-place.place-index in
    let p : Labelled = get_or ys i no_place in
    let lt : i < length ys = omega arith in
    let written = map_over_more (merged c.args.left c.args.right) c.args.places.now ys i p c.loop-place-test.true c.loop-place.invariant (get_or_default ys i no_place p lt) in
    elim c.if-place-greater.branch [
      | then-place-greater w ↦
          let e : ◌≡◌ {A = Labelled} (record { column = p.column; label = c.min-lesser.result }) (merged c.args.left c.args.right p) =
          rw c.min-lesser.ensures (sym (merged-yes c.args.left c.args.right p (w.if-place-greater.true ∙ c.max-greater.ensures))) in
          w.places-is ∙ ap (set ys i) e ∙ written
      | else-place-greater w ↦
          let e = merged-no c.args.left c.args.right p (λ q. w.if-place-greater.false (q ∙ sym c.max-greater.ensures)) in
          w.places-is ∙ ap (set ys i) (sym e) ∙ written
    ]
