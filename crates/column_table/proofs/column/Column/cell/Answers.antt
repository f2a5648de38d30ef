use Rattle.std.proofs.Common.{arith}
use Rattle.std.proofs.lemmas.Grind.{common_steps, elements}
use Rattle.column_table.proofs.column.Column.cell.Goals as goal

pub text-requires : goal.text-requires
text-requires c = grind (arith, common_steps)

pub returns-in-Numbers-clause-value : goal.returns-in-Numbers-clause-value
returns-in-Numbers-clause-value c = grind (arith, elements)

pub returns-in-Texts-clause-value : goal.returns-in-Texts-clause-value
returns-in-Texts-clause-value c = grind (arith, elements)
