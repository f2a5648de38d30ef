use Rattle.std.proofs.Common.{◌≡◌, ◌≤◌, ◌+◌, ◌++◌, drop, length, map, take}
use Rattle.key_codes.specs.Columns.{column_pairs, is_same_pair, pair_values}
use Rattle.key_codes.specs.Firsts.{firsts_after, place_among}
use Rattle.key_codes.proofs.columns.number_column.Given as goal

abbrev pub invariant-loop-item : goal.invariant-loop-item
invariant-loop-item l = record {
  met : pair_values l.pairs ≡ firsts_after is_same_pair (pair_values l.initial.pairs) (take l.item (column_pairs l.keys l.place l.initial.numbers));
  few : length l.pairs ≤ length l.initial.pairs + l.item;
  numbers : l.numbers ≡ map (place_among is_same_pair (pair_values l.pairs)) (take l.item (column_pairs l.keys l.place l.initial.numbers)) ++ drop l.item l.initial.numbers;
}
