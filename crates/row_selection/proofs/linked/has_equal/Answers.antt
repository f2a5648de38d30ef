use Rattle.std.proofs.Common.{◌∙◌, pos}
use Rattle.rpt_base.specs.declared.values.Value.{Value}
use Rattle.rpt_base.specs.declared.values.Value.TheVariants as value
use Rattle.column_table.specs.Table.{value_of}
use Rattle.row_selection.proofs.CellFacts.{same-cells, value-read}
use Rattle.row_selection.proofs.linked.has_equal.Goals as goal

pub returns : goal.returns
returns c =
    let d : Value = value.Int (pos 0) in
    let left = value-read c.args.table.now c.args.row c.args.first (value_of c.cell.result) d c.requires.row c.cell.ensures.value in
    let right = value-read c.args.table.now c.args.row c.args.second (value_of c.cell-2.result) d c.requires.row c.cell-2.ensures.value in
    rw (left, right) (c.eq.ensures ∙ same-cells c.cell.result c.cell-2.result)
