use Rattle.std.proofs.Common.{◌≡◌, take, []}
use Rattle.csv.specs.Records.{fields_of, partial_of}
use Rattle.row_output.specs.OutputText.{cells}
use Rattle.row_output.proofs.output.put_cells.Given as goal

abbrev pub invariant-loop-column : goal.invariant-loop-column
invariant-loop-column l = (fields_of l.fields ≡ cells l.bound.query l.tables (take l.column-index l.columns) l.numbers) × (partial_of l.fields ≡ [])
