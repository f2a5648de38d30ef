use Rattle.std.proofs.Common.{sym, subst, codes, List, Bool, arith}
use Rattle.std.proofs.lemmas.Grind.{common_steps}
use Rattle.std.specs.Prelude.{OnOk}
use Rattle.sql_grammar.specs.declared.tree.Cond.{Cond}
use Rattle.sql_grammar.specs.declared.tree.Cond.TheVariants as condition
use Rattle.sql_print.specs.declared.conditions.Room.TheVariants as room
use Rattle.sql_print.specs.Pieces.{word}
use Rattle.sql_print.specs.Printed.{cond_pieces, members_pieces, in_parens, and_is_wrapped, or_is_wrapped}
use Rattle.sql_print.specs.Puts.{Puts}
use Rattle.sql_print.proofs.Putting.{on_same}
use Rattle.sql_print.proofs.CondPieces.{and_pieces, or_pieces}
use Rattle.sql_print.proofs.conditions.+put.Goals as goal

pub put_cond-returns-in-And : goal.put_cond-returns-in-And
put_cond-returns-in-And t c =
    let all = c.in-And.all in
    let wrapped = subst (λ (w : Bool). OnOk c.put_joined.result (Puts (in_parens w (members_pieces (word (codes "AND")) room.InAnd c.as_slice.result.now)) c.args.out.now.items c.put_joined.new.out.items)) c.and_is_wrapped-wrapped.ensures c.put_joined.ensures in
    let put = subst (λ (xs : List Cond). OnOk c.put_joined.result (Puts (in_parens (and_is_wrapped c.args.room) (members_pieces (word (codes "AND")) room.InAnd xs)) c.args.out.now.items c.put_joined.new.out.items)) c.as_slice.ensures wrapped in
    subst (λ (x : Cond). OnOk c.put_joined.result (Puts (cond_pieces x c.args.room) c.args.out.now.items c.put_joined.new.out.items)) (sym c.in-And.is)
    (on_same (in_parens (and_is_wrapped c.args.room) (members_pieces (word (codes "AND")) room.InAnd all)) (cond_pieces (condition.And all) c.args.room) c.args.out.now.items c.put_joined.new.out.items c.put_joined.result
    (λ more. sym (and_pieces all c.args.room more)) put)

pub put_cond-returns-in-Or : goal.put_cond-returns-in-Or
put_cond-returns-in-Or t c =
    let any = c.in-Or.any in
    let wrapped = subst (λ (w : Bool). OnOk c.put_joined-in-Or.result (Puts (in_parens w (members_pieces (word (codes "OR")) room.InOr c.as_slice-in-Or.result.now)) c.args.out.now.items c.put_joined-in-Or.new.out.items)) c.or_is_wrapped-wrapped.ensures c.put_joined-in-Or.ensures in
    let put = subst (λ (xs : List Cond). OnOk c.put_joined-in-Or.result (Puts (in_parens (or_is_wrapped c.args.room) (members_pieces (word (codes "OR")) room.InOr xs)) c.args.out.now.items c.put_joined-in-Or.new.out.items)) c.as_slice-in-Or.ensures wrapped in
    subst (λ (x : Cond). OnOk c.put_joined-in-Or.result (Puts (cond_pieces x c.args.room) c.args.out.now.items c.put_joined-in-Or.new.out.items)) (sym c.in-Or.is)
    (on_same (in_parens (or_is_wrapped c.args.room) (members_pieces (word (codes "OR")) room.InOr any)) (cond_pieces (condition.Or any) c.args.room) c.args.out.now.items c.put_joined-in-Or.new.out.items c.put_joined-in-Or.result
    (λ more. sym (or_pieces any c.args.room more)) put)

pub put_members-loop-member-preserved : goal.put_members-loop-member-preserved
put_members-loop-member-preserved t c = grind (arith, common_steps)

pub put_members-returns : goal.put_members-returns
put_members-returns t c = grind (arith, common_steps)

pub put_joined-returns-then-wrapped : goal.put_joined-returns-then-wrapped
put_joined-returns-then-wrapped t c = grind (arith, common_steps)
