use Rattle.column_classes.proofs.Existence.{variables-there}
use Rattle.column_classes.proofs.Unique.{variables-unique}
use Rattle.column_classes.proofs.laws.has_variables.Goals as goal

pub returns-clause-there : goal.returns-clause-there
returns-clause-there c = variables-there

pub returns-clause-one : goal.returns-clause-one
returns-clause-one c = variables-unique
