use Rattle.std.proofs.Common.{◌≡◌, ap, arith, refl, rules, sym, true}
use Rattle.std.specs.Result.{is_ok}
use Rattle.column_classes.specs.Labels.{column_at}
use Rattle.column_classes.specs.declared.columns.ColumnRef.{ColumnRef}
use Rattle.column_classes.proofs.PairFacts.{pairs-end, pairs-push, pairs-skip, pairs-start}
use Rattle.column_classes.proofs.PlaceFacts.{column-same}
use Rattle.column_classes.proofs.variables.add_pairs.Goals as goal
use Rattle.column_classes.proofs.variables.add_pairs.Goals.{then-second-first+then-second-first-2+in_ok-push, else-second-first, else-second-first-via-then-second-first+else-second-first-2, else-second-first-via-else-second-first}

pub later-init : goal.later-init
later-init c = pairs-start c.args.places.now c.requires.order (column_at c.args.places.now c.args.i).relation c.args.i c.args.pairs.now.items c.requires.pairs

pub later-preserved : goal.later-preserved
later-preserved c =
    let places = c.args.places.now in
    let r = (column_at places c.args.i).relation in
    let skip = pairs-skip places c.requires.order r c.args.i c.later.j c.later.pairs.items c.later.invariant c.requires.place c.later-test.true in
    elim c.if-second-first.branch [
      | then-second-first+then-second-first-2+in_ok-push w ↦
          let good : is_ok w.push.result ≡ true = search rules in
          let items = rw good at w.push.ensures.items in
          rw (w.pairs-is, items)
          (pairs-push places c.requires.order r c.args.i c.later.j c.later.pairs.items c.later.invariant c.requires.place c.later-test.true ((column_at places c.args.i).column, (column_at places c.later.j).column)
          (omega arith, sym w.if-second-first-2.true, column-same _ _ refl refl, column-same _ _ w.if-second-first.true refl))
      | else-second-first w ↦
          elim w.else-second-first.branch [
            | else-second-first-via-then-second-first+else-second-first-2 v ↦ rw w.pairs-is (skip (λ p at. v.if-second-first-2.false (sym at.1)))
            | else-second-first-via-else-second-first v ↦ rw w.pairs-is (skip (λ p at. v.if-second-first.false (ap (λ (c : ColumnRef). c.relation) at.3)))
          ]
    ]

pub returns : goal.returns
returns c = pairs-end c.args.places.now c.requires.order (column_at c.args.places.now c.args.i).relation c.args.i c.later.j c.later.pairs.items c.later-test.false c.later.invariant
