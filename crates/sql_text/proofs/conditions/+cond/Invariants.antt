use Rattle.std.proofs.Common.{◌+◌, ◌*◌, length, [], ◌∷◌}
use Rattle.sql_grammar.specs.Meaning.{conj_of, neg_of, conjs_of, negs_of}
use Rattle.sql_grammar.proofs.Loops.{Awaits}
use Rattle.sql_text.proofs.Members.{disjuncts, conjuncts}
use Rattle.sql_text.proofs.conditions.+cond.Given as goal

abbrev pub decreases-cond : goal.decreases-cond
decreases-cond l = 4 * l.levels + 3

abbrev pub decreases-conj : goal.decreases-conj
decreases-conj l = 4 * l.levels + 2

abbrev pub decreases-neg : goal.decreases-neg
decreases-neg l = 4 * l.levels + 1

abbrev pub decreases-prim : goal.decreases-prim
decreases-prim l = 4 * l.levels

abbrev pub invariant-cond-loop-all : goal.invariant-cond-loop-all
invariant-cond-loop-all l = Awaits disjuncts (λ d. conj_of d ∷ []) conjs_of l.levels l.tokens l.found.items l.rest

abbrev pub decreases-cond-loop-all : goal.decreases-cond-loop-all
decreases-cond-loop-all l = length l.rest

abbrev pub invariant-conj-loop-all : goal.invariant-conj-loop-all
invariant-conj-loop-all l = Awaits conjuncts (λ d. neg_of d ∷ []) negs_of l.levels l.tokens l.found.items l.rest

abbrev pub decreases-conj-loop-all : goal.decreases-conj-loop-all
decreases-conj-loop-all l = length l.rest
