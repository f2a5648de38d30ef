use Rattle.std.proofs.Common.{arith}
use Rattle.std.proofs.lemmas.Grind.{elements}
use Rattle.bound_query.proofs.bound.Bound.decl.Goals as goal

pub returns-clause-decl : goal.returns-clause-decl
returns-clause-decl c = grind (arith, elements)
