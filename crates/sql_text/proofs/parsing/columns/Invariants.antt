use Rattle.std.proofs.Common.{ℕ, length, [], ◌∷◌}
use Rattle.sql_grammar.specs.Meaning.{column_list_of, column_of, more_columns_of}
use Rattle.sql_grammar.proofs.Loops.{Awaits}
use Rattle.sql_text.proofs.parsing.columns.Given as goal

abbrev pub invariant-loop-all : goal.invariant-loop-all
invariant-loop-all l = (n : ℕ) → Awaits column_list_of (λ d. column_of d ∷ []) more_columns_of n l.tokens l.found.items l.rest

abbrev pub decreases-loop-all : goal.decreases-loop-all
decreases-loop-all l = length l.rest
