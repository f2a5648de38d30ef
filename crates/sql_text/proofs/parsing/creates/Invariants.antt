use Rattle.std.proofs.Common.{ℕ, length, []}
use Rattle.sql_grammar.specs.Meaning.{creates_of}
use Rattle.sql_grammar.proofs.Loops.{Grows}
use Rattle.sql_text.proofs.parsing.creates.Given as goal

abbrev pub invariant-loop-alloc : goal.invariant-loop-alloc
invariant-loop-alloc l = (n : ℕ) → Grows creates_of [] n l.tokens l.found.items l.rest

abbrev pub decreases-loop-alloc : goal.decreases-loop-alloc
decreases-loop-alloc l = length l.rest
