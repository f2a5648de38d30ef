use Rattle.std.proofs.Common.{◌≡◌, rules, true}
use Rattle.std.specs.Result.{is_ok}
use Rattle.column_classes.proofs.ClassFacts.{of-label-none, of-label-yes, of-label-no, of-label-all}
use Rattle.column_classes.proofs.variables.columns_with.Goals as goal
use Rattle.column_classes.proofs.variables.columns_with.Goals.{then-places-i+in_ok-push, else-places-i}

pub places-init : goal.places-init
places-init c = rw c.new-columns.ensures.items (of-label-none c.args.places.now c.requires c.args.label)

pub places-preserved : goal.places-preserved
places-preserved c =
    elim c.if-places-i.branch [
      | then-places-i+in_ok-push w ↦
          let good : is_ok w.push.result ≡ true = search rules in
          let items = rw good at w.push.ensures.items in
          rw (w.columns-is, items) (of-label-yes c.args.places.now c.requires c.args.label c.places.i c.places.columns.items c.places.invariant c.places-test.true w.if-places-i.true)
      | else-places-i w ↦
          rw w.columns-is (of-label-no c.args.places.now c.requires c.args.label c.places.i c.places.columns.items c.places.invariant c.places-test.true w.if-places-i.false)
    ]

pub returns : goal.returns
returns c = of-label-all c.args.places.now c.requires c.args.label c.places.i c.places.columns.items c.places-test.false c.places.invariant
