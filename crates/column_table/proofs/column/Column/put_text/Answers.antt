use Rattle.std.proofs.lemmas.Result.{on_ok_weaker, on_err_weaker}
use Rattle.column_table.proofs.ColumnFacts.{texts-put, texts-cut}
use Rattle.column_table.proofs.column.Column.put_text.Goals as goal

pub returns-clause-ok : goal.returns-clause-ok
returns-clause-ok c =
    on_ok_weaker c.put.result (texts-put c.args.self.now c.in-Texts.texts c.put.new.self c.args.at c.args.text.now (rw c.in-Texts.is at c.self.view_is)) c.put.ensures.ok

pub returns-clause-err : goal.returns-clause-err
returns-clause-err c =
    on_err_weaker c.put.result (texts-cut c.args.self.now c.in-Texts.texts c.put.new.self c.args.at (rw c.in-Texts.is at c.self.view_is)) c.put.ensures.err
