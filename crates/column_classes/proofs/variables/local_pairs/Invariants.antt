use Rattle.std.proofs.Common.{◌≡◌, [], length, map}
use Rattle.std.specs.Prelude.{EachIndex}
use Rattle.std.specs.List.{slice_index_or}
use Rattle.column_classes.specs.Labels.{ArePairsBefore}
use Rattle.column_classes.proofs.variables.local_pairs.Given as goal

abbrev pub invariant-relations : goal.invariant-relations
invariant-relations l = record {
  long : length l.local.items ≡ l.relation;
  pairs : EachIndex l.local.items (λ r. ArePairsBefore l.places r (length l.places) 0 (slice_index_or (map (λ p. p.items) l.local.items) r []));
}
