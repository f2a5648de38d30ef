use Rattle.std.proofs.Common.{length}
use Rattle.sql_lex.specs.declared.tokens.Mark.TheVariants as m
use Rattle.sql_print.specs.Pieces.{mark}
use Rattle.sql_print.specs.Printed.{behind_each, declared_pieces}
use Rattle.sql_print.specs.Puts.{Leaves}
use Rattle.sql_print.proofs.printing.put_more_columns.Given as goal

abbrev pub invariant-loop-next : goal.invariant-loop-next
invariant-loop-next l = Leaves (behind_each (mark m.Comma) declared_pieces l.fn.columns) (behind_each (mark m.Comma) declared_pieces l.rest) l.fn.out.items l.out.items

abbrev pub decreases-loop-next : goal.decreases-loop-next
decreases-loop-next l = length l.rest
