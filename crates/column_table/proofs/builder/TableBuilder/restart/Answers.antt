use Rattle.column_table.proofs.ColumnFacts.{shows-restart}
use Rattle.column_table.proofs.builder.TableBuilder.restart.Goals as goal

pub invariant_of-self : goal.invariant_of-self
invariant_of-self c = shows-restart _ _ _ c.self.invariant
