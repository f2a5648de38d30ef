use Rattle.std.proofs.Common.{sym, subst, Option}
use Rattle.sql_grammar.specs.declared.tree.Cond.{Cond}
use Rattle.sql_print.specs.Printed.{next_source}
use Rattle.sql_print.specs.Puts.{Puts}
use Rattle.sql_print.proofs.Putting.{then}
use Rattle.sql_print.proofs.printing.put_next_source.Goals as goal

pub returns-in_ok-put_cond-in-Some : goal.returns-in_ok-put_cond-in-Some
returns-in_ok-put_cond-in-Some c =
    subst (λ (on : Option Cond). Puts (next_source on c.args.source.now) c.args.out.now.items c.put_cond.new.out.items) (sym c.in-Some.is)
    (then c.in_ok-put_word-in-Some.ensures (then c.in_ok-put_factor-in-Some.ensures (then c.in_ok-put_word-in-Some-2.ensures c.in_ok-put_cond-in-Some.ensures)))

pub returns-in_ok-put_factor-in-None : goal.returns-in_ok-put_factor-in-None
returns-in_ok-put_factor-in-None c =
    subst (λ (on : Option Cond). Puts (next_source on c.args.source.now) c.args.out.now.items c.put_factor-in-None.new.out.items) (sym c.in-None.is)
    (then c.in_ok-put_mark-in-None.ensures c.in_ok-put_factor-in-None.ensures)
