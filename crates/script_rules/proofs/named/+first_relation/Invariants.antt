use Rattle.script_rules.specs.Conjuncts.{columns_in}
use Rattle.script_rules.proofs.NamedFacts.{IsFirstFrom}
use Rattle.script_rules.proofs.named.+first_relation.Given as goal

abbrev pub invariant-first_of_all-loop-cond : goal.invariant-first_of_all-loop-cond
invariant-first_of_all-loop-cond l = IsFirstFrom (columns_in l.scope) l.conds l.cond-index
