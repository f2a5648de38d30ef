-- The numbers of columns of a bound query's relations.
use Rattle.std.proofs.Common.{◌≡◌, ◌<◌, ◌≤◌, ℕ, [], arith, length, get_or}
use Rattle.std.specs.Prelude.{slice_index}
use Rattle.std.proofs.lemmas.List.{get_or-map, length-map}
use Rattle.column_table.specs.declared.declared.ColumnDecl.{ColumnDecl}
use Rattle.column_classes.specs.declared.columns.ColumnRef.{ColumnRef}
use Rattle.bound_query.specs.Query.{IsBound, IsEqualityOf, IsColumnOf, Query, columns_in, columns_of, kinds_of, widths_of}
use Rattle.column_classes.specs.Variables.{AreEqualities, AreWidths, IsColumn}

module _ (q : Query) where
  -- there is a width for each relation
  pub widths-length : length (widths_of q) ≡ length q.table_of
  widths-length = length-map q.table_of (λ t. length (columns_in q.tables t))

  -- the width of a relation
  width-at : (r d : ℕ) → r < length q.table_of → get_or (widths_of q) r d ≡ length (columns_of q r)
  width-at r d lt = get_or-map (λ t. length (columns_in q.tables t)) q.table_of r 0 d lt

  pub widths-are : IsBound q → AreWidths (widths_of q)
  widths-are bound = record {
    one = omega (arith, widths-length, bound.some);
    few = omega (arith, widths-length, bound.few);
    narrow = λ k d lt.
        let within : k < length q.table_of = omega (arith, widths-length, lt) in
        let narrow : length (columns_of q k) ≤ 64 = bound.few_columns (slice_index q.table_of k) (record { name = []; columns = [] }) (bound.within k within) in
        omega (arith, width-at k d within, narrow);
  }

  column-is : (c : ColumnRef) → IsColumnOf q c → IsColumn (widths_of q) c
  column-is c named =
      let e = width-at c.relation 0 named.relation in
      let k : length (kinds_of q c.relation) ≡ length (columns_of q c.relation) = length-map (columns_of q c.relation) (λ (d : ColumnDecl). d.kind) in
      (omega (arith, widths-length, named.relation), omega (arith, e, k, named.column))

  pub equalities-are : IsBound q → AreEqualities (widths_of q) q.equalities
  equalities-are bound = λ k d lt. let joins : IsEqualityOf q (get_or q.equalities k d) = bound.joined k d lt in (column-is _ joins.left, column-is _ joins.right)
