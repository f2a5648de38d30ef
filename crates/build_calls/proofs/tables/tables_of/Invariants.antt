use Rattle.std.proofs.Common.{◌≡◌, ◌∷◌, [], All, length}
use Rattle.rpt_base.specs.declared.values.ColumnType.TheVariants as kind
use Rattle.build_calls.proofs.tables.tables_of.Given as goal

abbrev pub invariant-loop-entry : goal.invariant-loop-entry
invariant-loop-entry l = record {
  count : length l.tables.items ≡ l.entry-index;
  kinds : All (λ t. t.kinds ≡ kind.Int ∷ kind.Text ∷ []) l.tables.items;
  rows : All (λ t. length t.rows ≡ 3) l.tables.items;
}
