use Rattle.sql_print.proofs.Putting.{then}
use Rattle.sql_print.proofs.conditions.put_between.Goals as goal

pub returns : goal.returns
returns c =
    then c.in_ok-put_expr.ensures (then c.in_ok-put_not.ensures (then c.in_ok-put_word.ensures
    (then c.in_ok-put_expr-2.ensures (then c.in_ok-put_word-2.ensures c.in_ok-put_expr-3.ensures))))
