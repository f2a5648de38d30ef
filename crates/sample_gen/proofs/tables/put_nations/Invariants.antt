use Rattle.std.proofs.Common.{◌≡◌, ◌++◌}
use Rattle.sample_gen.specs.Tables.{nation_row, rows_text}
use Rattle.sample_gen.proofs.tables.put_nations.Given as goal

abbrev pub invariant-loop-id : goal.invariant-loop-id
invariant-loop-id l = l.out.items ≡ l.initial.out.items ++ rows_text nation_row l.id
