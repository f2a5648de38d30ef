use Rattle.std.proofs.Common.{◌≡◌, ◌∙◌, ap, subst, sym, arith, ℕ, ◌<◌, List, length}
use Rattle.std.proofs.lemmas.Grind.{common_steps}
use Rattle.std.specs.Prelude.{slice_index}
use Rattle.std.proofs.lemmas.List.FromFn.{length-map-range_with_len}
use Rattle.rpt_base.specs.declared.filters.FilterKind.{FilterKind}
use Rattle.column_table.specs.Table.{Rows}
use Rattle.bound_query.specs.Query.{BoundQuery}
use Rattle.join_graph.specs.declared.tree.Link.{Link}
use Rattle.join_graph.specs.declared.tree.Tree.{Tree}
use Rattle.join_graph.specs.JoinList.{HasParents}
use Rattle.join_laws.specs.Selected.{selected_counts, selected_rows}
use Rattle.transfer_plan.specs.Kept.{Run, Written, item_count}
use Rattle.transfer_plan.specs.TransferPlan.{is_keyed}
use Rattle.transfer_plan.proofs.KeptRows.{kept_is}
use Rattle.rpt_engine.specs.Transferred.{IsTransfer}
use Rattle.answer_calls.proofs.answers.put_answer.Goals as goal

-- a transfer has as many items of a relation as rows of it are selected
module _ (b : BoundQuery) (tables : List Rows) (filter : FilterKind) (tree : Tree) (morsel : ℕ) (run : Run)
    (parents : HasParents (length (selected_counts b tables)) tree.root tree.links) (is : IsTransfer b tables filter tree morsel run)
    (r : ℕ) (less : r < length (selected_counts b tables)) where
  own-parents : HasParents (length is.plan.items) is.plan.root is.plan.links
  own-parents =
      subst (λ (ns : List ℕ). HasParents (length ns) is.plan.root is.plan.links) (sym is.made.items)
      (subst (λ (ls : List Link). HasParents (length (selected_counts b tables)) is.plan.root ls) (sym is.made.links)
      (subst (λ (root : ℕ). HasParents (length (selected_counts b tables)) root tree.links) (sym is.made.root) parents))

  items-are : item_count run r ≡ slice_index (selected_counts b tables) r
  items-are =
      let within : r < length is.plan.items = subst (λ (ns : List ℕ). r < length ns) (sym is.made.items) less in
      ap (λ (u : Run). item_count u r) is.sealed
      ∙ ap (λ (w : Written). w.items) (kept_is is.plan.root is.plan.links (is_keyed is.plan.edges) is.plan.items r within own-parents)
      ∙ ap (λ (ns : List ℕ). slice_index ns r) is.made.items

-- as many relations are counted as there are
counted : (b : BoundQuery) (tables : List Rows) → length (selected_counts b tables) ≡ length b.query.table_of
counted b tables = length-map-range_with_len (λ r. length (selected_rows b tables r)) 0 (length b.query.table_of)

pub put_kept-requires-clause-told : goal.put_kept-requires-clause-told
put_kept-requires-clause-told g c r within =
    let seen = ap (λ (ns : List ℕ). length ns) (c.as_slice-in-Ok-answered-2.ensures ∙ c.in-Ok-answered.ensures.selected) in
    (c.in-Ok-answered.ensures.counts r (omega (arith, within, seen, counted c.args.bound.now c.args.tables.now))).0

pub put_kept-requires-clause-items : goal.put_kept-requires-clause-items
put_kept-requires-clause-items g c r within =
    let b = c.args.bound.now in
    let tables = c.args.tables.now in
    let tree = c.in-Ok-answered.outcome.tree in
    let seen = c.as_slice-in-Ok-answered-2.ensures ∙ c.in-Ok-answered.ensures.selected in
    let sets : length b.known.sets ≡ length (selected_counts b tables) = c.relations-relations.ensures.sets ∙ sym (counted b tables) in
    let parents = subst (λ (n : ℕ). HasParents n tree.root tree.links) sets c.in-Ok-answered.ensures.plan.tree.joins.parents in
    let less : r < length (selected_counts b tables) = subst (λ (ns : List ℕ). r < length ns) seen within in
    let items = items-are b tables c.args.filter tree 1024 c.in-Ok-answered.outcome.transfer parents c.in-Ok-answered.ensures.transfer r less in
    let here = ap (λ (ns : List ℕ). slice_index ns r) seen in
    omega (arith, here, items)

pub put_kept-requires-clause-few : goal.put_kept-requires-clause-few
put_kept-requires-clause-few g c = grind (arith, common_steps)
