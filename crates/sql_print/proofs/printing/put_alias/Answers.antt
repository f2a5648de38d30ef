use Rattle.std.proofs.Common.{sym, subst, Option}
use Rattle.sql_grammar.specs.declared.tree.Alias.{Alias}
use Rattle.sql_print.specs.Printed.{alias_pieces}
use Rattle.sql_print.specs.Puts.{Puts}
use Rattle.sql_print.proofs.Putting.{then}
use Rattle.sql_print.proofs.printing.put_alias.Goals as goal

pub returns-in_ok-put_name-in-Some : goal.returns-in_ok-put_name-in-Some
returns-in_ok-put_name-in-Some c =
    subst (λ (a : Option Alias). Puts (alias_pieces a) c.args.out.now.items c.put_name.new.out.items) (sym c.in-Some.is)
    (then c.in_ok-put_word-in-Some.ensures c.in_ok-put_name-in-Some.ensures)
