use Rattle.std.proofs.Common.{◌≡◌, ◌∙◌, ◌≤◌, ap, sym, subst, ℕ, List, [], length}
use Rattle.rpt_base.specs.declared.limits.TheConstants.{MAX_ROWS}
use Rattle.std.specs.Prelude.{filter}
use Rattle.std.specs.List.Sorted.{IsStrictlyIncreasing}
use Rattle.std.proofs.lemmas.Result.{IfOk-weaker}
use Rattle.column_table.specs.Bits.{set_rows}
use Rattle.column_table.specs.Table.{Rows}
use Rattle.bound_query.specs.Answer.{table_at}
use Rattle.join_laws.specs.Selected.{selected_rows}
use Rattle.row_selection.specs.Linked.{AreRows, is_linked}
use Rattle.row_selection.proofs.ListFacts.{empty-is}
use Rattle.row_selection.proofs.SelectedFacts.{linked-columns, linked-rows, listed-rows, selected-few, selected-linked, selected-listed, selected-rising}
use Rattle.row_selection.proofs.selection.selected.Goals as goal

pub returns-then-is_empty-clause-rows : goal.returns-then-is_empty-clause-rows
returns-then-is_empty-clause-rows c =
    let none : c.local-pairs.result.now ≡ [] = empty-is c.local-pairs.result.now (sym c.is_empty.ensures ∙ c.if-is_empty.true) in
    c.in_ok-rows.ensures
    ∙ selected-listed c.args.bound.now c.args.tables.now c.args.relation c.table_at-table.result.now c.pred.result.now c.local-pairs.result.now c.in_ok-bits.bits
    c.table_at-table.ensures.table c.pred.ensures.condition c.local-pairs.ensures c.in_ok-bits.ensures none

pub returns-then-is_empty-clause-below : goal.returns-then-is_empty-clause-below
returns-then-is_empty-clause-below c =
    subst (λ (t : Rows). AreRows t c.in_ok-rows.rows.items) c.table_at-table.ensures.table
    (listed-rows c.table_at-table.result.now c.pred.result.now c.in_ok-bits.bits c.in_ok-rows.rows.items c.in_ok-bits.ensures c.in_ok-rows.ensures)

pub linked-requires-clause-rows : goal.linked-requires-clause-rows
linked-requires-clause-rows c =
    listed-rows c.table_at-table.result.now c.pred.result.now c.in_ok-bits.bits c.deref.result.now c.in_ok-bits.ensures (c.deref.ensures.value ∙ c.in_ok-rows.ensures)

pub linked-requires-clause-pairs : goal.linked-requires-clause-pairs
linked-requires-clause-pairs c =
    linked-columns c.args.bound.now c.args.relation c.table_at-table.result.now c.local-pairs.result.now c.var_sets-sets.ensures.known c.requires.relation c.local-pairs.ensures c.table_at-table.ensures.kinds

pub returns-clause-rows : goal.returns-clause-rows
returns-clause-rows c =
    let t : Rows = c.table_at-table.result.now in
    let pairs : List (ℕ × ℕ) = c.local-pairs.result.now in
    let rows : c.deref.result.now ≡ set_rows c.in_ok-bits.bits = c.deref.ensures.value ∙ c.in_ok-rows.ensures in
    let all : filter (is_linked t pairs) (set_rows c.in_ok-bits.bits) ≡ selected_rows c.args.bound.now c.args.tables.now c.args.relation =
    selected-linked c.args.bound.now c.args.tables.now c.args.relation t c.pred.result.now pairs c.in_ok-bits.bits c.table_at-table.ensures.table c.pred.ensures.condition c.local-pairs.ensures c.in_ok-bits.ensures in
    IfOk-weaker c.linked.result (λ kept. kept.items ≡ filter (is_linked t pairs) c.deref.result.now) (λ kept. kept.items ≡ selected_rows c.args.bound.now c.args.tables.now c.args.relation)
    (λ kept is. is ∙ ap (filter (is_linked t pairs)) rows ∙ all) c.linked.ensures

pub returns-clause-below : goal.returns-clause-below
returns-clause-below c =
    let t : Rows = c.table_at-table.result.now in
    let pairs : List (ℕ × ℕ) = c.local-pairs.result.now in
    let rows : AreRows t c.deref.result.now = listed-rows t c.pred.result.now c.in_ok-bits.bits c.deref.result.now c.in_ok-bits.ensures (c.deref.ensures.value ∙ c.in_ok-rows.ensures) in
    IfOk-weaker c.linked.result (λ kept. kept.items ≡ filter (is_linked t pairs) c.deref.result.now) (λ kept. AreRows (table_at c.args.bound.now.query c.args.tables.now c.args.relation) kept.items)
    (λ kept is. subst (λ (u : Rows). AreRows u kept.items) c.table_at-table.ensures.table (linked-rows t pairs c.deref.result.now kept.items rows is)) c.linked.ensures

pub returns-then-is_empty-clause-rise : goal.returns-then-is_empty-clause-rise
returns-then-is_empty-clause-rise c =
    selected-rising c.args.bound.now c.args.tables.now c.args.relation c.in_ok-rows.rows.items (returns-then-is_empty-clause-rows c)

pub returns-clause-rise : goal.returns-clause-rise
returns-clause-rise c =
    IfOk-weaker c.linked.result (λ kept. kept.items ≡ selected_rows c.args.bound.now c.args.tables.now c.args.relation) (λ kept. IsStrictlyIncreasing kept.items)
    (λ kept is. selected-rising c.args.bound.now c.args.tables.now c.args.relation kept.items is) (returns-clause-rows c)

pub returns-then-is_empty-clause-few : goal.returns-then-is_empty-clause-few
returns-then-is_empty-clause-few c =
    selected-few c.args.bound.now c.args.tables.now c.args.relation _ c.table_at-table.result.now c.in_ok-rows.rows.items
    c.table_at-table.ensures.table c.rows-rows.ensures.limit (returns-then-is_empty-clause-rows c)

pub returns-clause-few : goal.returns-clause-few
returns-clause-few c =
    IfOk-weaker c.linked.result (λ kept. kept.items ≡ selected_rows c.args.bound.now c.args.tables.now c.args.relation) (λ kept. length kept.items ≤ MAX_ROWS)
    (λ kept is. selected-few c.args.bound.now c.args.tables.now c.args.relation _ c.table_at-table.result.now kept.items c.table_at-table.ensures.table c.rows-rows.ensures.limit is) (returns-clause-rows c)
