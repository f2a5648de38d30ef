use Rattle.std.proofs.Common.{◌≡◌}
use Rattle.std.specs.Prelude.{take}
use Rattle.bound_query.specs.Query.{widths_in}
use Rattle.binder.proofs.widths.widths.Given as goal

abbrev pub invariant-relations : goal.invariant-relations
invariant-relations l = l.widths.items ≡ widths_in l.tables (take l.relation l.table_of)
