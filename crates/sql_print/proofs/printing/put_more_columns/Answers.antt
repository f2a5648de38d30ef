use Rattle.std.proofs.Common.{subst, List}
use Rattle.sql_grammar.specs.declared.tree.ColumnItem.{ColumnItem}
use Rattle.sql_lex.specs.declared.tokens.Mark.TheVariants as m
use Rattle.sql_print.specs.Pieces.{mark}
use Rattle.sql_print.specs.Printed.{behind_each, declared_pieces}
use Rattle.sql_print.specs.Puts.{Leaves}
use Rattle.sql_print.proofs.Putting.{leaves}
use Rattle.sql_print.proofs.printing.put_more_columns.Goals as goal

pub loop-next-preserved : goal.loop-next-preserved
loop-next-preserved c =
    leaves (leaves (subst (λ (xs : List ColumnItem). Leaves (behind_each (mark m.Comma) declared_pieces c.args.columns.now) (behind_each (mark m.Comma) declared_pieces xs) c.args.out.now.items c.loop-next.out.items) c.in-Some.ensures.cases.0 c.loop-next.invariant)
    c.in_ok-put_mark.ensures) c.in_ok-put_declared.ensures
