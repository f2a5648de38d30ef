use Rattle.std.proofs.Common.{◌≡◌, ◌+◌, ◌++◌}
use Rattle.sample_gen.specs.Draws.{state_after}
use Rattle.sample_gen.specs.Tables.{pair_row, rows_text}
use Rattle.sample_gen.proofs.tables.put_pairs.Given as goal

abbrev pub invariant-loop-id : goal.invariant-loop-id
invariant-loop-id l = record {
  rows : l.out.items ≡ l.initial.out.items ++ rows_text (pair_row l.number l.first l.bound) l.id;
  state : l.draws.state ≡ state_after l.number (l.first + l.id);
}
