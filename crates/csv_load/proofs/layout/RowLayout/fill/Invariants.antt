use Rattle.csv.specs.Records.{fields_of}
use Rattle.csv_load.proofs.RowFacts.{HasFilled}
use Rattle.csv_load.proofs.layout.RowLayout.fill.Given as goal

abbrev pub invariant-columns : goal.invariant-columns
invariant-columns l = HasFilled l.self-inside.columns.now (fields_of l.self-inside.header) l.row (fields_of l.fields) l.fn.builder l.builder l.column
