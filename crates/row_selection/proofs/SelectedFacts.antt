-- The rows that are listed are the selected ones, and linked columns are columns of the table.
use Rattle.std.proofs.Common.{◌≡◌, ◌∙◌, ◌+◌, ◌<◌, ◌≤◌, ap, sym, subst, arith, ℕ, Bool, List, [], Some, get_or, length, map}
use Rattle.std.specs.Prelude.{◌&&◌, Contains, filter, slice_get}
use Rattle.std.specs.List.{All, range_with_len}
use Rattle.std.specs.List.Sorted.{IsStrictlyIncreasing}
use Rattle.std.proofs.lemmas.List.{get_or_default, length-map}
use Rattle.std.proofs.lemmas.List.Elements.{All-filter}
use Rattle.std.proofs.lemmas.List.FromFn.{get_or-range_with_len, length-range_with_len}
use Rattle.std.proofs.lemmas.List.Kept.{IsStrictlyIncreasing-filter}
use Rattle.std.proofs.lemmas.List.Sums.{count_by-le-length, length-filter}
use Rattle.std.proofs.lemmas.Option.{get_or_from_slice_get}
use Rattle.column_table.specs.Bits.{set_rows}
use Rattle.column_table.specs.Table.{Rows}
use Rattle.predicate.specs.declared.tree.Pred.{Pred}
use Rattle.predicate.specs.declared.tree.Pred.TheVariants as pred
use Rattle.predicate.specs.Truth.{is_true}
use Rattle.column_classes.specs.Variables.{AreQueryVariables}
use Rattle.bound_query.specs.Query.{BoundQuery, columns_in, kinds_of, widths_of}
use Rattle.bound_query.specs.Answer.{table_at}
use Rattle.join_laws.specs.Selected.{is_selected, selected_rows}
use Rattle.bound_query.proofs.RelationTables.{column-within}
use Rattle.row_selection.specs.Linked.{AreColumns, AreRows, is_linked}
use Rattle.row_selection.proofs.ListFacts.{set_rows-below, set_rows-map}
use Rattle.rpt_base.proofs.FilterFacts.{filter-all, filter-filter}

-- the rows of which a condition is true and that have the same value in each pair
abbrev both : Rows → Pred → List (ℕ × ℕ) → List ℕ
both t p pairs = filter (λ k. is_true p (get_or t.rows k []) && is_linked t pairs k) (range_with_len 0 (length t.rows))

both-are : (t : Rows) (p : Pred) (pairs : List (ℕ × ℕ)) → filter (is_linked t pairs) (set_rows (map (is_true p) t.rows)) ≡ both t p pairs
both-are t p pairs =
    ap (filter (is_linked t pairs)) (set_rows-map (is_true p) t.rows []) ∙ filter-filter (λ k. is_true p (get_or t.rows k [])) (is_linked t pairs) (range_with_len 0 (length t.rows))

module _ (b : BoundQuery) (tables : List Rows) (r : ℕ) (t : Rows) (p : Pred) (pairs : List (ℕ × ℕ)) (bits : List Bool)
    (table : t ≡ table_at b.query tables r) (condition : slice_get b.query.conditions r ≡ Some p) (local : slice_get b.known.local r ≡ Some pairs) (are : bits ≡ map (is_true p) t.rows) where
  pub selected-linked : filter (is_linked t pairs) (set_rows bits) ≡ selected_rows b tables r
  selected-linked =
      ap (λ (bs : List Bool). filter (is_linked t pairs) (set_rows bs)) are
      ∙ both-are t p pairs
      ∙ ap (λ (u : Rows). both u p pairs) table
      ∙ ap (λ (o : Pred). both (table_at b.query tables r) o pairs) (sym (get_or_from_slice_get b.query.conditions r p (pred.And []) condition))
      ∙ ap (λ (ps : List (ℕ × ℕ)). both (table_at b.query tables r) (get_or b.query.conditions r (pred.And [])) ps) (sym (get_or_from_slice_get b.known.local r pairs [] local))

  -- where no columns are linked
  pub selected-listed : pairs ≡ [] → set_rows bits ≡ selected_rows b tables r
  selected-listed none = sym (ap (λ (ps : List (ℕ × ℕ)). filter (is_linked t ps) (set_rows bits)) none ∙ filter-all (set_rows bits)) ∙ selected-linked

filter-shorter : (p : ℕ → Bool) (xs : List ℕ) → length (filter p xs) ≤ length xs
filter-shorter p xs = omega (arith, length-filter p xs, count_by-le-length p xs)

range-rising : (n : ℕ) → IsStrictlyIncreasing (range_with_len 0 n)
range-rising n = λ k lt.
    let count = length-range_with_len 0 n in
    let here : get_or (range_with_len 0 n) k 0 ≡ 0 + k = get_or-range_with_len 0 n k 0 (omega arith) in
    let next : get_or (range_with_len 0 n) (k + 1) 0 ≡ 0 + (k + 1) = get_or-range_with_len 0 n (k + 1) 0 (omega arith) in
    omega arith

-- the selected rows rise
pub selected-rising : (b : BoundQuery) (tables : List Rows) (r : ℕ) (rows : List ℕ) → rows ≡ selected_rows b tables r → IsStrictlyIncreasing rows
selected-rising b tables r rows is =
    let n = length (table_at b.query tables r).rows in
    subst (λ (xs : List ℕ). IsStrictlyIncreasing xs) (sym is) (IsStrictlyIncreasing-filter (is_selected b tables r) (range_with_len 0 n) (range-rising n))

-- there are no more than the table has
pub selected-few : (b : BoundQuery) (tables : List Rows) (r limit : ℕ) (t : Rows) (rows : List ℕ) → t ≡ table_at b.query tables r → length t.rows ≤ limit → rows ≡ selected_rows b tables r → length rows ≤ limit
selected-few b tables r limit t rows table few is =
    let u = table_at b.query tables r in
    let all = range_with_len 0 (length u.rows) in
    let count : length t.rows ≡ length u.rows = ap (λ (v : Rows). length v.rows) table in
    let kept : length rows ≤ length all = subst (λ (xs : List ℕ). length xs ≤ length all) (sym is) (filter-shorter (is_selected b tables r) all) in
    omega (arith, length-range_with_len 0 (length u.rows))

-- the rows of the bits are the table's
pub listed-rows : (t : Rows) (p : Pred) (bits : List Bool) (rows : List ℕ) → bits ≡ map (is_true p) t.rows → rows ≡ set_rows bits → AreRows t rows
listed-rows t p bits rows are is =
    let count : length bits ≡ length t.rows = ap length are ∙ length-map t.rows (is_true p) in
    let within : All (λ row. row < length t.rows) (set_rows bits) = subst (λ (n : ℕ). All (λ row. row < n) (set_rows bits)) count (set_rows-below bits) in
    subst (λ (xs : List ℕ). AreRows t xs) (sym is) within

pub linked-rows : (t : Rows) (pairs : List (ℕ × ℕ)) (rows kept : List ℕ) → AreRows t rows → kept ≡ filter (is_linked t pairs) rows → AreRows t kept
linked-rows t pairs rows kept are is = subst (λ (xs : List ℕ). AreRows t xs) (sym is) (All-filter (is_linked t pairs) (λ row. row < length t.rows) rows are)

-- each pair of linked columns is one of columns of the table
pub linked-columns : (b : BoundQuery) (r : ℕ) (t : Rows) (pairs : List (ℕ × ℕ)) → AreQueryVariables (widths_of b.query) b.query.equalities b.known → r < length b.query.table_of
    → slice_get b.known.local r ≡ Some pairs → t.kinds ≡ kinds_of b.query r → AreColumns t pairs
linked-columns b r t pairs known lt local kinds =
    λ k d within.
    let p : ℕ × ℕ = get_or pairs k d in
    let same : get_or b.known.local r [] ≡ pairs = get_or_from_slice_get b.known.local r pairs [] local in
    let widths : length (widths_of b.query) ≡ length b.query.table_of = length-map b.query.table_of (λ t. length (columns_in b.query.tables t)) in
    let less : r < length b.known.local = omega (arith, known.local_length, widths) in
    let there : Contains pairs (p.0, p.1) = (k, within, get_or_default pairs k p d within) in
    let columns = ((known.local r less).members p.0 p.1).0 (subst (λ (ps : List (ℕ × ℕ)). Contains ps (p.0, p.1)) (sym same) there) in
    let count : length t.kinds ≡ length (kinds_of b.query r) = ap length kinds in
    let first : p.0 < length (kinds_of b.query r) = column-within b.query r p.0 lt columns.1 in
    let second : p.1 < length (kinds_of b.query r) = column-within b.query r p.1 lt columns.2 in
    (omega (arith, count, first), omega (arith, count, second))
