use Rattle.sql_print.proofs.Putting.{then}
use Rattle.sql_print.proofs.conditions.put_like.Goals as goal

pub returns : goal.returns
returns c = then c.in_ok-put_expr.ensures (then c.in_ok-put_not.ensures (then c.in_ok-put_word.ensures c.in_ok-put_text.ensures))
