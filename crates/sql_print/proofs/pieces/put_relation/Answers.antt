use Rattle.std.proofs.Common.{sym, subst, List, ℕ, Option}
use Rattle.sql_print.specs.Printed.{relation_pieces}
use Rattle.sql_print.specs.Puts.{Puts}
use Rattle.sql_print.proofs.Putting.{then}
use Rattle.sql_print.proofs.pieces.put_relation.Goals as goal

pub returns-in_ok-put_mark-in-Some : goal.returns-in_ok-put_mark-in-Some
returns-in_ok-put_mark-in-Some c =
    subst (λ (r : Option (List ℕ)). Puts (relation_pieces r) c.args.out.now.items c.put_mark.new.out.items) (sym c.in-Some.is)
    (then c.in_ok-put_name-in-Some.ensures c.in_ok-put_mark-in-Some.ensures)
