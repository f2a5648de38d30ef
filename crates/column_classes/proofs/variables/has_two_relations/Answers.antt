use Rattle.std.proofs.Common.{arith, rules}
use Rattle.std.proofs.lemmas.Grind.{elements}
use Rattle.column_classes.proofs.variables.has_two_relations.Goals as goal

pub returns-then-column-columns : goal.returns-then-column-columns
returns-then-column-columns c = search rules depth 1

pub returns : goal.returns
returns c = grind (arith, elements)
