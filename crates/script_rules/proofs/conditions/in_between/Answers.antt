use Rattle.script_rules.specs.Violations.{between_violations, operand_violations}
use Rattle.script_rules.proofs.ConjunctFacts.{three-noted}
use Rattle.script_rules.proofs.conditions.in_between.Goals as goal

pub returns : goal.returns
unfolding between_violations
returns c =
    let of = operand_violations c.args.scope.now in
    rw (c.in_types.ensures, c.type_of.ensures, c.type_of-2.ensures, c.type_of-3.ensures, c.in_operand-found-3.ensures, c.in_operand-found-2.ensures, c.in_operand-found.ensures) (three-noted (of c.args.operand.now) (of c.args.low.now) (of c.args.high.now) _ c.args.found)
