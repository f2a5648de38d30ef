use Rattle.std.proofs.Common.{◌≡◌, rules, subst, sym, true}
use Rattle.std.specs.Result.{is_ok}
use Rattle.std.proofs.lemmas.List.{map-append}
use Rattle.column_classes.specs.Variables.{AreOfTwoRelations}
use Rattle.column_classes.proofs.ClassFacts.{by-label-narrow, by-label-none, by-label-other, by-label-push}
use Rattle.column_classes.proofs.variables.variables_of.Goals as goal
use Rattle.column_classes.proofs.variables.variables_of.Goals.{then-places-place+in_ok-class+then-has_two_relations+in_ok-push, then-places-place+in_ok-class+else-has_two_relations, else-places-place}

pub places-init : goal.places-init
places-init c = rw c.new-variables.ensures.items (by-label-none c.args.places.now c.requires)

pub places-preserved : goal.places-preserved
places-preserved c =
    elim c.if-places-place.branch [
      | then-places-place+in_ok-class+then-has_two_relations+in_ok-push w ↦
          let good : is_ok w.push.result ≡ true = search rules in
          let items = rw good at w.push.ensures.items in
          let two : AreOfTwoRelations w.in_ok-class.class.items = subst AreOfTwoRelations w.deref.ensures.value (w.has_two_relations.ensures.0 w.if-has_two_relations.true) in
          rw (w.variables-is, items, map-append)
          (by-label-push c.args.places.now c.requires c.places.place _ c.places.invariant c.places-test.true w.in_ok-class.class.items w.if-places-place.true w.in_ok-class.ensures two)
      | then-places-place+in_ok-class+else-has_two_relations w ↦
          let none : AreOfTwoRelations w.in_ok-class.class.items → ⊥ =
          λ two. (let one = w.has_two_relations.ensures.1 (subst AreOfTwoRelations (sym w.deref.ensures.value) two) in let not = w.if-has_two_relations.false in cc) in
          rw w.variables-is (by-label-narrow c.args.places.now c.requires c.places.place _ c.places.invariant c.places-test.true w.in_ok-class.class.items w.in_ok-class.ensures none)
      | else-places-place w ↦ rw w.variables-is (by-label-other c.args.places.now c.requires c.places.place _ c.places.invariant c.places-test.true w.if-places-place.false)
    ]
