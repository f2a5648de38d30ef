use Rattle.std.proofs.lemmas.Result.{IfOk-weaker}
use Rattle.sql_print.specs.Puts.{IsShown}
use Rattle.sql_print.specs.Unplaced.{IsReadBack}
use Rattle.sql_print.proofs.ReadBack.{read_back}
use Rattle.sql_print.proofs.printing.print.Goals as goal

pub returns-clause-reads_back : goal.returns-clause-reads_back
returns-clause-reads_back c =
    let script = c.args.script.now in
    IfOk-weaker c.text_of.result (λ text. IsShown script text.items) (λ text. IsReadBack script text.items)
    (λ text h. read_back script text.items c.requires.well_formed c.requires.levels h (λ bytes tokens k. c.tokens_are_read.ensures.is_listed bytes tokens k)) c.text_of.ensures
