use Rattle.std.proofs.Common.{◌∙◌, ◌++◌, ◌∷◌, [], ap, sym, arith, ℕ, List, length, map}
use Rattle.std.specs.List.{range_with_len}
use Rattle.std.proofs.lemmas.List.FromFn.{map-range_with_len_more}
use Rattle.column_table.specs.Table.{Rows}
use Rattle.bound_query.specs.Answer.{table_at}
use Rattle.rpt_cli.proofs.explain.row_counts.Goals as goal

pub loop-relation-preserved : goal.loop-relation-preserved
loop-relation-preserved c =
    let r = c.loop-relation.relation in
    let rows_of : ℕ → ℕ = λ s. length (table_at c.args.bound.now.query c.args.tables.now s).rows in
    c.in_ok-push.ensures.items
    ∙ ap (λ (ns : List ℕ). ns ++ c.rows-rows.result ∷ []) c.loop-relation.invariant
    ∙ ap (λ (n : ℕ). map rows_of (range_with_len 0 r) ++ n ∷ []) (c.rows-rows.ensures.count ∙ ap (λ (t : Rows). length t.rows) c.table_at.ensures.table)
    ∙ sym (map-range_with_len_more rows_of 0 r r (omega arith))
