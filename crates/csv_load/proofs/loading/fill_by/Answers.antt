use Rattle.std.proofs.Common.{◌∙◌, ap, length, sym, arith}
use Rattle.std.proofs.lemmas.Grind.{common_steps}
use Rattle.std.proofs.lemmas.List.{length-map}
use Rattle.column_table.specs.Table.{OpenTable}
use Rattle.column_table.specs.declared.declared.ColumnDecl.{ColumnDecl}
use Rattle.csv.specs.Records.{fields_of}
use Rattle.csv_load.proofs.RowFacts.{cells_of-length, rows-more}
use Rattle.csv_load.proofs.loading.fill_by.Goals as goal

pub end_row-requires-clause-full : goal.end_row-requires-clause-full
end_row-requires-clause-full c =
    let columns = c.args.layout.now.columns in
    let kinds = ap (λ (f : OpenTable). length f.kinds) c.in_ok-fill.ensures.others ∙ ap (λ (ks : _). length ks) c.records.invariant.kinds ∙ length-map columns (λ (d : ColumnDecl). d.kind) in
    cells_of-length columns c.args.layout.now.header c.records.row (fields_of c.next_into.new.fields) c.fill.new.builder.started c.in_ok-fill.ensures.cells ∙ sym kinds

pub records-preserved : goal.records-preserved
records-preserved c =
    let next = rw c.in-Ok-true.field-0-test at c.in-Ok-true.ensures.reads in
    rows-more c.args.limit c.args.layout.now.columns c.args.layout.now.header c.args.reader.now c.records.reader c.records.builder c.records.row c.records.invariant (fields_of c.next_into.new.fields) c.next_into.new.self
    c.fill.new.builder c.end_row.new.self next c.records-test.true c.in_ok-fill.ensures.cells c.in_ok-fill.ensures.others c.end_row.ensures

pub returns-clause-rows : goal.returns-clause-rows
returns-clause-rows c = grind (arith, common_steps)

pub records-init : goal.records-init
records-init c = grind (arith, common_steps)
