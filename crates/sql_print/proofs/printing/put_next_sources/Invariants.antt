use Rattle.std.proofs.Common.{length}
use Rattle.sql_print.specs.Printed.{next_sources}
use Rattle.sql_print.specs.Puts.{Leaves}
use Rattle.sql_print.proofs.printing.put_next_sources.Given as goal

abbrev pub invariant-loop-next : goal.invariant-loop-next
invariant-loop-next l = Leaves (next_sources l.fn.sources) (next_sources l.rest) l.fn.out.items l.out.items

abbrev pub decreases-loop-next : goal.decreases-loop-next
decreases-loop-next l = length l.rest
