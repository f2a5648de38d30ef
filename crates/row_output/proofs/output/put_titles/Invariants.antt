use Rattle.std.proofs.Common.{◌≡◌, take, []}
use Rattle.csv.specs.Records.{fields_of, partial_of}
use Rattle.row_output.specs.OutputText.{titles}
use Rattle.row_output.proofs.output.put_titles.Given as goal

abbrev pub invariant-loop-column : goal.invariant-loop-column
invariant-loop-column l = (fields_of l.fields ≡ titles (take l.column-index l.columns)) × (partial_of l.fields ≡ [])
