use Rattle.std.proofs.Common.{ℕ, length, [], ◌∷◌}
use Rattle.sql_grammar.specs.Meaning.{item_list_of, item_of, more_items_of}
use Rattle.sql_grammar.proofs.Loops.{Awaits}
use Rattle.sql_text.proofs.sources.item_list.Given as goal

abbrev pub invariant-loop-all : goal.invariant-loop-all
invariant-loop-all l = (n : ℕ) → Awaits item_list_of (λ d. item_of d ∷ []) more_items_of n l.tokens l.found.items l.rest

abbrev pub decreases-loop-all : goal.decreases-loop-all
decreases-loop-all l = length l.rest
