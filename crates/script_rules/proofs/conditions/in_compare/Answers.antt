use Rattle.script_rules.specs.Violations.{compare_violations, operand_violations}
use Rattle.script_rules.proofs.ConjunctFacts.{two-noted}
use Rattle.script_rules.proofs.conditions.in_compare.Goals as goal

pub returns : goal.returns
unfolding compare_violations
returns c =
    let of = operand_violations c.args.scope.now in
    rw (c.in_types.ensures, c.type_of.ensures, c.type_of-2.ensures, c.in_operand-found-2.ensures, c.in_operand-found.ensures) (two-noted (of c.args.left.now) (of c.args.right.now) _ c.args.found)
