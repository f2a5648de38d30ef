use Rattle.std.proofs.Common.{drop}
use Rattle.sql_print.specs.Pieces.{word}
use Rattle.sql_print.specs.Printed.{cond_pieces, members_pieces, rest_of}
use Rattle.sql_print.specs.Puts.{Leaves}
use Rattle.sql_print.proofs.conditions.+put.Given as goal

abbrev pub invariant-put_members-loop-member : goal.invariant-put_members-loop-member
invariant-put_members-loop-member l =
    Leaves (members_pieces (word l.joining) l.room l.members) (rest_of l.begun (word l.joining) (λ member. cond_pieces member l.room) (drop l.member-index l.members)) l.fn.out.items l.out.items
