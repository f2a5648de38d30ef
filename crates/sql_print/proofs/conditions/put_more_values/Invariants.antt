use Rattle.std.proofs.Common.{length}
use Rattle.sql_lex.specs.declared.tokens.Mark.TheVariants as m
use Rattle.sql_print.specs.Pieces.{mark}
use Rattle.sql_print.specs.Printed.{behind_each, value_pieces}
use Rattle.sql_print.specs.Puts.{Leaves}
use Rattle.sql_print.proofs.conditions.put_more_values.Given as goal

abbrev pub invariant-loop-next : goal.invariant-loop-next
invariant-loop-next l = Leaves (behind_each (mark m.Comma) value_pieces l.fn.values) (behind_each (mark m.Comma) value_pieces l.rest) l.fn.out.items l.out.items

abbrev pub decreases-loop-next : goal.decreases-loop-next
decreases-loop-next l = length l.rest
