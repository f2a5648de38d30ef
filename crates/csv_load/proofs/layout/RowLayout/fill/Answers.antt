use Rattle.std.proofs.Common.{◌≡◌, ◌∙◌, arith, subst, sym}
use Rattle.std.proofs.lemmas.Grind.{common_steps}
use Rattle.std.specs.Prelude.{Err}
use Rattle.std.proofs.lemmas.Bool.{eqb-true}
use Rattle.csv.specs.Records.{fields_of}
use Rattle.csv_load.specs.FileTable.{cells_of, place_of}
use Rattle.column_table.specs.Table.{types_of}
use Rattle.csv_load.specs.Layouts.{FileLayout}
use Rattle.csv_load.specs.Loads.{Refuses}
use Rattle.csv_load.proofs.FirstRefusals.{made-length}
use Rattle.csv_load.proofs.RowFacts.{filled-bad, filled-kind, filled-more, refuses-fault}
use Rattle.csv_load.proofs.layout.RowLayout.fill.Goals as goal

pub index-requires : goal.index-requires
index-requires c = omega (arith, made-length (place_of (fields_of c.self.inside.header)) 0 c.self.inside.columns.now c.self.inside.places.items c.self.invariant.0)

pub put_field-requires : goal.put_field-requires
put_field-requires c =
    let kinds : c.args.builder.now.kinds ≡ types_of c.self.inside.columns.now = subst (λ (l : FileLayout). c.args.builder.now.kinds ≡ types_of l.columns) (sym c.self.view_is) c.requires.kinds in
    filled-kind c.self.inside.columns.now (fields_of c.self.inside.header) c.args.row (fields_of c.args.fields.now) c.args.builder.now c.columns.builder c.columns.column c.index-self-column.result
    c.columns.invariant kinds c.columns-test.true

pub returns-then-not-branch-clause-refused : goal.returns-then-not-branch-clause-refused
returns-then-not-branch-clause-refused c =
    let long = eqb-true _ _ (sym c.is_as_long.ensures ∙ c.if-not-is_as_long.false) in
    let bad = filled-bad c.self.inside.columns.now (fields_of c.self.inside.header) c.args.row (fields_of c.args.fields.now) c.self.inside.places.items c.self.invariant.0 c.args.builder.now c.columns.builder c.columns.column
    c.index.result.now c.index-self-column.result c.field_at-field.result.now c.columns.invariant c.columns-test.true c.index.ensures c.field_at-field.ensures c.put_field.new.builder long (rw c.if-not-branch.true at c.in_ok-put_field.ensures) in
    subst (λ (l : FileLayout). Refuses {Y = Unit {0}} (cells_of l.columns l.header c.args.row (fields_of c.args.fields.now)) (Err c.fault.result)) c.self.view_is (refuses-fault (Unit {0}) _ _ c.args.row c.columns.column _ bad c.fault.ensures)

pub columns-preserved : goal.columns-preserved
columns-preserved c =
    filled-more c.self.inside.columns.now (fields_of c.self.inside.header) c.args.row (fields_of c.args.fields.now) c.self.inside.places.items c.self.invariant.0 c.args.builder.now c.columns.builder c.columns.column
    c.index.result.now c.index-self-column.result c.field_at-field.result.now c.columns.invariant c.columns-test.true c.index.ensures c.field_at-field.ensures c.put_field.new.builder (rw c.if-not-branch.false at c.in_ok-put_field.ensures)

pub returns-clause-cells : goal.returns-clause-cells
returns-clause-cells c = grind (arith, common_steps)

pub overflow_cast-column : goal.overflow_cast-column
overflow_cast-column c = grind (arith, common_steps)
