use Rattle.std.proofs.Common.{ℕ, length, [], ◌∷◌}
use Rattle.sql_grammar.specs.Meaning.{literal_list_of, literal_of, literals_of}
use Rattle.sql_grammar.proofs.Loops.{Awaits}
use Rattle.sql_grammar.proofs.comparing.literals.Given as goal

abbrev pub invariant-loop-all : goal.invariant-loop-all
invariant-loop-all l = (n : ℕ) → Awaits literal_list_of (λ d. literal_of d ∷ []) literals_of n l.tokens l.found.items l.rest

abbrev pub decreases-loop-all : goal.decreases-loop-all
decreases-loop-all l = length l.rest
