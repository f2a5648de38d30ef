use Rattle.std.proofs.Common.{◌≡◌, drop, false}
use Rattle.sql_lex.specs.Lexing.{text_of, grown_text}
use Rattle.sql_lex.proofs.kinds.text_of.Given as goal

abbrev pub invariant-loop-i : goal.invariant-loop-i
invariant-loop-i l = text_of false l.bytes ≡ grown_text l.text.items l.i (text_of l.quoted (drop l.i l.bytes))
