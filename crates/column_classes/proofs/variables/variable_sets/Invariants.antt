use Rattle.std.proofs.Common.{◌≡◌, [], length, map}
use Rattle.std.specs.Prelude.{EachIndex}
use Rattle.std.specs.List.{slice_index_or}
use Rattle.column_classes.specs.Variables.{AreVariablesOf}
use Rattle.column_classes.proofs.variables.variable_sets.Given as goal

abbrev pub invariant-relations : goal.invariant-relations
invariant-relations l = record {
  long : length l.sets.items ≡ l.relation;
  sets : EachIndex l.sets.items (λ r. AreVariablesOf (map (λ c. c.items) l.variables) r (slice_index_or (map (λ s. s.items) l.sets.items) r []));
}
