use Rattle.std.proofs.Common.{◌≡◌, length, ◌++◌}
use Rattle.sql_lex.specs.Tokens.{doubled_quotes}
use Rattle.sql_print.proofs.pieces.put_doubled.Given as goal

abbrev pub invariant-loop-first : goal.invariant-loop-first
invariant-loop-first l = l.out.items ++ doubled_quotes l.rest ≡ l.fn.out.items ++ doubled_quotes l.written

abbrev pub decreases-loop-first : goal.decreases-loop-first
decreases-loop-first l = length l.rest
