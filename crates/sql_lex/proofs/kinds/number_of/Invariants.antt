use Rattle.std.proofs.Common.{◌≡◌, ◌≤◌, drop}
use Rattle.sql_lex.specs.Lexing.{number_of}
use Rattle.sql_lex.proofs.Steps.{number_after}
use Rattle.sql_lex.proofs.kinds.number_of.Given as goal

abbrev pub invariant-loop-b : goal.invariant-loop-b
invariant-loop-b l = (l.value ≤ 9223372036854775808) × (number_of l.bytes ≡ number_after l.value (drop l.b-index l.bytes))
