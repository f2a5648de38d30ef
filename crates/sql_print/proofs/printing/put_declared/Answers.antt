use Rattle.sql_print.proofs.Putting.{then}
use Rattle.sql_print.proofs.printing.put_declared.Goals as goal

pub returns : goal.returns
returns c = then c.in_ok-put_name.ensures c.in_ok-put_type.ensures
