use Rattle.std.proofs.Common.{◌≡◌, ◌++◌, List, arith, drop, get_or, length, map, take}
use Rattle.std.proofs.lemmas.Grind.{common_steps}
use Rattle.std.proofs.lemmas.List.{length-map}
use Rattle.column_classes.specs.Labels.{merged}
use Rattle.column_classes.specs.declared.classes.Labelled.{Labelled}
use Rattle.column_classes.proofs.LabelFacts.{merge-all, merge-next, merge-none, no_equality}
use Rattle.column_classes.proofs.PlaceFacts.{column-any}
use Rattle.column_classes.proofs.classes.label_columns.Goals as goal

pub loop-equality-init : goal.loop-equality-init
loop-equality-init c = merge-none c.args.widths.now c.args.equalities.now c.in_ok-places.places.items c.requires.widths c.in_ok-places.ensures

pub label_of-left-requires : goal.label_of-left-requires
label_of-left-requires c =
    let e = get_or c.args.equalities.now c.loop-equality.equality-index no_equality in
    let two = c.requires.equalities c.loop-equality.equality-index no_equality c.loop-equality-test.true in
    rw c.deref.ensures.value (column-any c.loop-equality.places.items e.left ((c.loop-equality.invariant.columns e.left).1 two.0))

pub label_of-right-requires : goal.label_of-right-requires
label_of-right-requires c =
    let e = get_or c.args.equalities.now c.loop-equality.equality-index no_equality in
    let two = c.requires.equalities c.loop-equality.equality-index no_equality c.loop-equality-test.true in
    rw c.deref-in-loop-equality.ensures.value (column-any c.loop-equality.places.items e.right ((c.loop-equality.invariant.columns e.right).1 two.1))

pub loop-equality-preserved : goal.loop-equality-preserved
loop-equality-preserved c =
    let places = c.loop-equality.places.items in
    let new : List Labelled = map (merged c.label_of-left.result c.label_of-right.result) places in
    let is : c.merge.new.places ≡ new = rw (← c.deref_mut.ensures.value) c.merge.ensures in
    let kept : take c.loop-equality.places.len (new ++ drop (length new) places) ≡ new = grind (arith, common_steps, length-map places (merged c.label_of-left.result c.label_of-right.result)) in
    rw (is, kept) (merge-next c.args.widths.now c.args.equalities.now places c.loop-equality.equality-index c.label_of-left.result c.label_of-right.result c.loop-equality.invariant c.loop-equality-test.true
    (rw c.deref.ensures.value at c.label_of-left.ensures) (rw c.deref-in-loop-equality.ensures.value at c.label_of-right.ensures))

pub returns : goal.returns
returns c = merge-all c.args.widths.now c.args.equalities.now c.loop-equality.places.items c.loop-equality.equality-index c.loop-equality.invariant c.loop-equality-test.false c.requires.equalities
