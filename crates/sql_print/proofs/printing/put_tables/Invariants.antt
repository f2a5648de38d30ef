use Rattle.std.proofs.Common.{length}
use Rattle.sql_print.specs.Printed.{tables_pieces}
use Rattle.sql_print.specs.Puts.{Leaves}
use Rattle.sql_print.proofs.printing.put_tables.Given as goal

abbrev pub invariant-loop-next : goal.invariant-loop-next
invariant-loop-next l = Leaves (tables_pieces l.fn.tables) (tables_pieces l.rest) l.fn.out.items l.out.items

abbrev pub decreases-loop-next : goal.decreases-loop-next
decreases-loop-next l = length l.rest
