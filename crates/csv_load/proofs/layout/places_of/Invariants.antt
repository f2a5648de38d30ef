use Rattle.std.proofs.Common.{◌≡◌, drop}
use Rattle.csv.specs.Records.{fields_of}
use Rattle.csv_load.specs.FileTable.{place_of, places_of}
use Rattle.csv_load.proofs.FirstRefusals.{behind, made}
use Rattle.csv_load.proofs.layout.places_of.Given as goal

abbrev pub invariant-columns : goal.invariant-columns
invariant-columns l = places_of l.columns (fields_of l.header) ≡ behind l.places.items (made (place_of (fields_of l.header)) l.column (drop l.column l.columns))
