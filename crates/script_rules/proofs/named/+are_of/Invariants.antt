use Rattle.script_rules.specs.Conjuncts.{columns_in}
use Rattle.script_rules.proofs.NamedFacts.{IsOfFrom}
use Rattle.script_rules.proofs.named.+are_of.Given as goal

abbrev pub invariant-all_are_of-loop-cond : goal.invariant-all_are_of-loop-cond
invariant-all_are_of-loop-cond l = IsOfFrom (columns_in l.scope) l.conds l.relation l.cond-index
