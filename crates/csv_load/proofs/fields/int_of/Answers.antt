use Rattle.csv_load.proofs.NumberFacts.{not_parsed, parsed, signed_utf8}
use Rattle.column_table.proofs.FieldFacts.{numeral-from}
use Rattle.csv_load.proofs.fields.int_of.Goals as goal

pub returns-in-Ok-parse : goal.returns-in-Ok-parse
returns-in-Ok-parse c = parsed c.args.field.now c.in-Ok.text.now c.in-Ok-parse.number c.in-Ok.ensures.cases.0 c.in-Ok-parse.ensures.value.0

pub returns-in-Err-parse : goal.returns-in-Err-parse
returns-in-Err-parse c = not_parsed c.args.field.now c.in-Ok.text.now c.in-Ok.ensures.cases.0 c.in-Err-parse.ensures.value.0

pub returns-in-Err : goal.returns-in-Err
returns-in-Err c = λ h. c.in-Err.ensures.cases.0 (signed_utf8 c.args.field.now (numeral-from c.args.field.now h).0)
