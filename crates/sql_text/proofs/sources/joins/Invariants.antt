use Rattle.std.proofs.Common.{length}
use Rattle.sql_grammar.specs.Meaning.{joins_of}
use Rattle.sql_grammar.proofs.Loops.{Grows}
use Rattle.sql_text.proofs.sources.joins.Given as goal

abbrev pub invariant-loop-alloc : goal.invariant-loop-alloc
invariant-loop-alloc l = Grows joins_of l.fn.found.items l.levels l.tokens l.found.items l.rest

abbrev pub decreases-loop-alloc : goal.decreases-loop-alloc
decreases-loop-alloc l = length l.rest
