use Rattle.std.proofs.Common.{◌∙◌, refl, ap, sym}
use Rattle.script_rules.specs.Violations.{first_of}
use Rattle.script_rules.proofs.ConjunctFacts.{violations_in-some}
use Rattle.script_rules.proofs.conditions.in_some.Goals as goal

pub returns-in-Some : goal.returns-in-Some
returns-in-Some c =
    c.in_parts.ensures ∙ rw c.in-Some.is (ap (first_of c.args.found) (sym (violations_in-some c.args.scope.now c.in-Some.cond)))

pub returns-in-None : goal.returns-in-None
unfolding first_of
returns-in-None c = rw c.in-None.is refl
