use Rattle.std.proofs.Common.{◌≡◌, ◌∙◌, ◌++◌, ◌∷◌, [], ap, arith, get_or, length, List, ℕ, subst, sym}
use Rattle.row_output.specs.Heads.{IsHead}
use Rattle.std.proofs.lemmas.Grind.{common_steps}
use Rattle.std.proofs.lemmas.Option.{get_or_from_slice_get}
use Rattle.row_output.proofs.SortFacts.{heads-more, referred-more, wide-more}
use Rattle.row_output.proofs.sorting.rows_of.Goals as goal

pub loop-row-preserved : goal.loop-row-preserved
loop-row-preserved c =
    let rows = c.args.answer.now.rows in
    let pushed : c.push.new.self.items ≡ c.loop-row.rows.items ++ c.headed.result ∷ [] = grind (arith, common_steps) in
    let at : get_or rows c.loop-row.row [] ≡ c.row.result.now = get_or_from_slice_get rows c.loop-row.row c.row.result.now [] c.row.ensures.row in
    record {
      are = referred-more rows c.loop-row.rows.items c.push.new.self.items c.headed.result c.loop-row.row c.loop-row.invariant.are pushed (at ∙ sym c.headed.ensures.row) (omega arith);
      wide = wide-more c.args.answer.now.width c.loop-row.rows.items c.push.new.self.items c.headed.result c.loop-row.invariant.wide pushed (ap (λ (xs : List ℕ). length xs) c.headed.ensures.row ∙ c.row.ensures.wide);
      heads = heads-more c.loop-row.rows.items c.push.new.self.items c.headed.result c.loop-row.invariant.heads pushed
          (subst (λ (xs : List ℕ). IsHead c.headed.result.0 c.headed.result.1 xs) (sym c.headed.ensures.row) c.headed.ensures.heads);
    }

pub returns-clause-rows : goal.returns-clause-rows
returns-clause-rows c = grind (arith, common_steps)
