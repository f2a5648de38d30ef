-- The columns of a bound query's variables.
use Rattle.std.proofs.Common.{◌≡◌, subst, arith, ℕ, ◌<◌, List, Some, length, get_or}
use Rattle.std.specs.List.{All, slice_get}
use Rattle.std.proofs.lemmas.List.{get_or-map, length-map}
use Rattle.std.proofs.lemmas.List.Elements.{Contains-get_or}
use Rattle.std.proofs.lemmas.Option.{get_or_from_slice_get, slice_get_within}
use Rattle.column_table.specs.declared.declared.ColumnDecl.{ColumnDecl}
use Rattle.column_classes.specs.declared.columns.ColumnRef.{ColumnRef}
use Rattle.column_classes.specs.Variables.{AreQueryVariables, IsClass, IsColumn, QueryVariables}
use Rattle.bound_query.specs.Query.{IsColumnOf, Query, columns_in, columns_of, kinds_of, widths_of}
use Rattle.bound_query.proofs.WidthFacts.{widths-length}

-- a column by the widths of the relations is one by their tables
column-named : (q : Query) (c : ColumnRef) → IsColumn (widths_of q) c → IsColumnOf q c
column-named q c is =
    let inside : c.relation < length q.table_of = omega (arith, widths-length q, is.0) in
    let width : get_or (widths_of q) c.relation 0 ≡ length (columns_of q c.relation) = get_or-map (λ t. length (columns_in q.tables t)) q.table_of c.relation 0 0 inside in
    let kinds : length (kinds_of q c.relation) ≡ length (columns_of q c.relation) = length-map (columns_of q c.relation) (λ (d : ColumnDecl). d.kind) in
    record { relation = inside; column = omega (arith, width, kinds, is.1) }

class-named : (q : Query) (columns : List ColumnRef) → IsClass (widths_of q) q.equalities columns → All (IsColumnOf q) columns
class-named q columns class = λ k d lt. column-named q (get_or columns k d) ((class.members (get_or columns k d)).0 (Contains-get_or columns k d lt)).0

-- the columns of a variable are columns of the query
pub variable-named : (q : Query) (known : QueryVariables) → AreQueryVariables (widths_of q) q.equalities known → (v : ℕ) (columns : List ColumnRef)
    → slice_get known.variables v ≡ Some columns → All (IsColumnOf q) columns
variable-named q known are v columns at =
    let class : IsClass (widths_of q) q.equalities (get_or known.variables v columns) = (are.variables.classes v columns (slice_get_within known.variables v columns at)).0 in
    class-named q columns (subst (λ (cs : List ColumnRef). IsClass (widths_of q) q.equalities cs) (get_or_from_slice_get known.variables v columns columns at) class)
