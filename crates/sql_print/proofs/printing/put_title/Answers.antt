use Rattle.std.proofs.Common.{sym, subst, Option, List, ℕ}
use Rattle.sql_print.specs.Printed.{title_pieces}
use Rattle.sql_print.specs.Puts.{Puts}
use Rattle.sql_print.proofs.Putting.{then}
use Rattle.sql_print.proofs.printing.put_title.Goals as goal

pub returns-in_ok-put_name-in-Some : goal.returns-in_ok-put_name-in-Some
returns-in_ok-put_name-in-Some c =
    subst (λ (t : Option (List ℕ)). Puts (title_pieces t) c.args.out.now.items c.put_name.new.out.items) (sym c.in-Some.is)
    (then c.in_ok-put_word-in-Some.ensures c.in_ok-put_name-in-Some.ensures)
