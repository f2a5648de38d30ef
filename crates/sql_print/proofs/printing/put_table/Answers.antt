use Rattle.std.proofs.Common.{subst, List}
use Rattle.sql_grammar.specs.declared.tree.ColumnItem.{ColumnItem}
use Rattle.sql_lex.specs.declared.tokens.Mark.TheVariants as m
use Rattle.sql_print.specs.Pieces.{mark}
use Rattle.sql_print.specs.Printed.{between_all, declared_pieces}
use Rattle.sql_print.specs.Puts.{Puts}
use Rattle.sql_print.proofs.Putting.{then}
use Rattle.sql_print.proofs.printing.put_table.Goals as goal

pub returns : goal.returns
returns c =
    let columns = subst (λ (xs : List ColumnItem). Puts (between_all (mark m.Comma) declared_pieces xs) c.put_mark.new.out.items c.put_columns.new.out.items) c.as_slice.ensures c.in_ok-put_columns.ensures in
    then c.in_ok-put_word.ensures (then c.in_ok-put_word-2.ensures (then c.in_ok-put_name.ensures (then c.in_ok-put_mark.ensures
    (then columns (then c.in_ok-put_mark-2.ensures c.in_ok-put_mark-3.ensures)))))
