use Rattle.std.proofs.Common.{◌∙◌, sym}
use Rattle.script_rules.proofs.ConjunctFacts.{conjunct-in, conjunct-none}
use Rattle.script_rules.proofs.conditions.in_conjunct.Goals as goal

pub returns-in-Some : goal.returns-in-Some
returns-in-Some c = c.merge.ensures ∙ conjunct-in c.args.scope.now c.args.cond.now c.args.found c.in-Some.violation (sym c.in_cond.ensures ∙ c.in-Some.is)

pub returns-in-None : goal.returns-in-None
returns-in-None c = c.in_join.ensures ∙ conjunct-none c.args.scope.now c.args.cond.now c.args.found (sym c.in_cond.ensures ∙ c.in-None.is)
