use Rattle.csv.specs.Records.{fields_of}
use Rattle.csv_load.specs.FileTable.{is_named}
use Rattle.csv_load.proofs.PlaceFacts.{SeenOnce}
use Rattle.csv_load.proofs.layout.place_of.Given as goal

abbrev pub invariant-fields : goal.invariant-fields
invariant-fields l = SeenOnce (is_named l.name) (fields_of l.header) l.i l.place
