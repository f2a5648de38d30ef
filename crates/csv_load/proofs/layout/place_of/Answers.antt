use Rattle.std.proofs.Common.{◌∙◌, ◌<◌, [], ap, length, sym}
use Rattle.csv.specs.Records.{fields_of}
use Rattle.csv_load.specs.FileTable.{is_named}
use Rattle.csv_load.proofs.PlaceFacts.{seen-first, seen-pass}
use Rattle.csv_load.proofs.layout.place_of.Goals as goal
use Rattle.csv_load.proofs.layout.place_of.Goals.{then-has_name+else-is_some, else-has_name}

pub fields-preserved : goal.fields-preserved
fields-preserved c =
    let fields = fields_of c.args.header.now in
    let named = ap (is_named c.args.name.now) (sym c.field_at.ensures) ∙ sym c.has_name.ensures in
    let lt : c.fields.i < length fields = rw (← c.len-i-end.ensures) c.fields-test.true in
    elim c.if-has_name.branch [
      | then-has_name+else-is_some w ↦ rw w.place-is (seen-first (is_named c.args.name.now) fields c.fields.i [] c.fields.place lt (named ∙ w.if-has_name.true) (sym w.is_some.ensures ∙ w.if-is_some.false) c.fields.invariant)
      | else-has_name w ↦ rw w.place-is (seen-pass (is_named c.args.name.now) fields c.fields.i [] c.fields.place lt (named ∙ w.if-has_name.false) c.fields.invariant)
    ]
