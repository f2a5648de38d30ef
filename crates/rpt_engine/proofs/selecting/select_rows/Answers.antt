use Rattle.std.proofs.Common.{◌≡◌, ◌∙◌, ◌++◌, ◌∷◌, [], ap, sym, arith, ℕ, List, length, map}
use Rattle.std.proofs.lemmas.Grind.{common_steps}
use Rattle.std.specs.List.{range_with_len}
use Rattle.std.proofs.lemmas.List.FromFn.{map-range_with_len_more}
use Rattle.join_laws.specs.Selected.{selected_rows}
use Rattle.rpt_engine.proofs.EachFacts.{selected-lists}
use Rattle.rpt_engine.proofs.selecting.select_rows.Goals as goal

pub relations-preserved : goal.relations-preserved
relations-preserved c =
    let rows_of : ℕ → List ℕ = selected_rows c.args.bound.now c.args.tables.now in
    let r = c.relations.relation in
    record {
      rows_are = c.in_ok-add.ensures.rows
          ∙ ap (λ (ls : List (List ℕ)). ls ++ c.in_ok-rows.rows.items ∷ []) c.relations.invariant.rows_are
          ∙ ap (λ (xs : List ℕ). map rows_of (range_with_len 0 r) ++ xs ∷ []) c.in_ok-rows.ensures.rows
          ∙ sym (map-range_with_len_more rows_of 0 r r (omega arith));
      counts_are = c.in_ok-add.ensures.counts
          ∙ ap (λ (ns : List ℕ). ns ++ length c.in_ok-rows.rows.items ∷ []) c.relations.invariant.counts_are
          ∙ ap (λ (xs : List ℕ). map (λ s. length (rows_of s)) (range_with_len 0 r) ++ length xs ∷ []) c.in_ok-rows.ensures.rows
          ∙ sym (map-range_with_len_more (λ s. length (rows_of s)) 0 r r (omega arith));
    }

pub returns-clause-rows : goal.returns-clause-rows
returns-clause-rows c =
    let rows_of : ℕ → List ℕ = selected_rows c.args.bound.now c.args.tables.now in
    let all : c.relations.relation ≡ length c.args.bound.now.query.table_of = omega (arith, c.relations-test.false, c.relations-relation-end.ensures.count, c.relations.auto.relation-end) in
    selected-lists c.args.bound.now c.args.tables.now c.relations.selection.rows.items (c.relations.invariant.rows_are ∙ ap (λ (n : ℕ). map rows_of (range_with_len 0 n)) all)

pub returns-clause-counts : goal.returns-clause-counts
returns-clause-counts c = grind (arith, common_steps)
