use Rattle.std.proofs.Common.{◌≡◌, map, arith}
use Rattle.std.proofs.lemmas.Grind.{common_steps}
use Rattle.std.proofs.lemmas.Result.{IfOk-weaker}
use Rattle.std.specs.List.Sorted.{IsPermutation, IsSorted}
use Rattle.std.specs.Cmp.Lexicographic.{slice_cmp}
use Rattle.std.specs.Ordering.{nat_cmp}
use Rattle.row_output.specs.Tuples.{Tuples}
use Rattle.row_output.proofs.SortFacts.{kept-behind, sorted-behind, wide-behind}
use Rattle.row_output.proofs.sorting.sorted.Goals as goal

pub gathered-requires-clause-wide : goal.gathered-requires-clause-wide
gathered-requires-clause-wide c =
    wide-behind c.args.answer.width c.width.result c.in_ok-rows.rows.items c.sort_unstable.new.self.items c.as_slice.result.now
    c.in_ok-rows.ensures.wide c.sort_unstable.ensures.permutation c.as_slice.ensures.value c.width.ensures.width

pub returns-clause-kept : goal.returns-clause-kept
returns-clause-kept c =
    IfOk-weaker c.gathered.result (λ (a : Tuples). a.rows ≡ map (λ row. row.2.now) c.as_slice.result.now) (λ (a : Tuples). IsPermutation c.args.answer.rows a.rows)
    (λ a is. kept-behind c.args.answer.rows a.rows c.in_ok-rows.rows.items c.sort_unstable.new.self.items c.as_slice.result.now
    c.in_ok-rows.ensures.rows c.sort_unstable.ensures.permutation c.as_slice.ensures.value is)
    c.gathered.ensures

pub returns-clause-sorted : goal.returns-clause-sorted
returns-clause-sorted c =
    IfOk-weaker c.gathered.result (λ (a : Tuples). a.rows ≡ map (λ row. row.2.now) c.as_slice.result.now) (λ (a : Tuples). IsSorted (slice_cmp nat_cmp) a.rows)
    (λ a is. sorted-behind c.args.answer.width a.rows c.in_ok-rows.rows.items c.sort_unstable.new.self.items c.as_slice.result.now
    (record { heads = c.in_ok-rows.ensures.heads; wide = c.in_ok-rows.ensures.wide }) c.sort_unstable.ensures.permutation c.sort_unstable.ensures.sorted c.as_slice.ensures.value is)
    c.gathered.ensures

pub returns-then-is_sorted-clause-kept : goal.returns-then-is_sorted-clause-kept
returns-then-is_sorted-clause-kept c = grind (arith, common_steps)
