use Rattle.std.proofs.Common.{◌≡◌, ◌+◌, ◌*◌, ◌++◌}
use Rattle.sample_gen.specs.Draws.{state_after}
use Rattle.sample_gen.specs.Tables.{item_row, rows_text}
use Rattle.sample_gen.proofs.tables.put_items.Given as goal

abbrev pub invariant-loop-id : goal.invariant-loop-id
invariant-loop-id l = record {
  rows : l.out.items ≡ l.initial.out.items ++ rows_text (item_row l.number l.first) l.id;
  state : l.draws.state ≡ state_after l.number (l.first + 2 * l.id);
}
