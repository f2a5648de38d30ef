use Rattle.std.proofs.Common.{length}
use Rattle.sql_grammar.specs.Meaning.{source_list_of, source_of, more_sources_of}
use Rattle.sql_grammar.proofs.Loops.{Awaits}
use Rattle.sql_text.proofs.sources.sources.Given as goal

abbrev pub invariant-loop-all : goal.invariant-loop-all
invariant-loop-all l = Awaits source_list_of source_of more_sources_of l.levels l.tokens l.found.items l.rest

abbrev pub decreases-loop-all : goal.decreases-loop-all
decreases-loop-all l = length l.rest
