use Rattle.column_table.proofs.FieldFacts.{text-read}
use Rattle.column_table.proofs.laws.texts_are_read.Goals as goal

pub returns : goal.returns
returns c = text-read
