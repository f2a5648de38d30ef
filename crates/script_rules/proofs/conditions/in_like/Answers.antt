use Rattle.script_rules.specs.Violations.{like_violations, operand_violations}
use Rattle.script_rules.proofs.ConjunctFacts.{one-noted}
use Rattle.script_rules.proofs.conditions.in_like.Goals as goal

pub returns : goal.returns
unfolding like_violations
returns c =
    let of = operand_violations c.args.scope.now in
    rw (c.in_types.ensures, c.type_of.ensures, c.in_operand-found.ensures) (one-noted (of c.args.operand.now) _ c.args.found)
