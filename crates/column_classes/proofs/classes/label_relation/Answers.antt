use Rattle.std.proofs.Common.{◌≡◌, length, rules, arith, true}
use Rattle.std.specs.Result.{is_ok}
use Rattle.column_classes.proofs.LabelFacts.{own-next, own-push}
use Rattle.column_classes.proofs.classes.label_relation.Goals as goal

pub columns-preserved : goal.columns-preserved
columns-preserved c =
    let good : is_ok c.push.result ≡ true = search rules in
    let items = rw good at c.push.ensures.items in
    let place : c.len.result ≡ length c.columns.places.items = search rules in
    rw (items, place) (own-push c.args.widths.now c.args.relation c.columns.column c.columns.places.items c.requires.relation c.columns-test.true c.columns.invariant)

pub returns : goal.returns
returns c = own-next c.args.widths.now c.args.relation c.columns.column c.columns.places.items c.columns-test.false (omega (arith, c.requires.widths.narrow c.args.relation 0 c.requires.relation)) c.columns.invariant
