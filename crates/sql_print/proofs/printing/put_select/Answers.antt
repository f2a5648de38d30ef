use Rattle.std.proofs.Common.{rules}
use Rattle.sql_print.proofs.printing.put_select.Goals as goal

pub returns : goal.returns
returns c = search rules depth 1
