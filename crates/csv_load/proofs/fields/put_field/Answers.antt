use Rattle.csv_load.proofs.ValueFacts.{puts-none, puts-some, text-none, text-value}
use Rattle.csv_load.proofs.fields.put_field.Goals as goal

pub returns-in_ok-put_text-in-Ok : goal.returns-in_ok-put_text-in-Ok
returns-in_ok-put_text-in-Ok c =
    puts-some _ _ _ (text-value c.args.kind c.args.field.now c.in-Ok.text.now c.in-Text.is c.in-Ok.ensures.cases.0 c.in-Ok.ensures.cases.1) c.in_ok-put_text-in-Ok.ensures.ok

pub returns-in-Err : goal.returns-in-Err
returns-in-Err c = puts-none _ _ (text-none c.args.kind c.args.field.now c.in-Text.is c.in-Err.ensures.cases.0)
