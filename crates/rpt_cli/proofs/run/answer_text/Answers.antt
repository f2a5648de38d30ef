use Rattle.std.proofs.Common.{◌≡◌, subst, sym, List, ℕ}
use Rattle.std.specs.Prelude.{IfOk}
use Rattle.std.specs.List.{All}
use Rattle.row_output.specs.OutputText.{output_text}
use Rattle.row_output.specs.Tuples.{AreRowNumbers}
use Rattle.row_output.proofs.AnswerFacts.{answer_of-ranges}
use Rattle.rpt_cli.proofs.run.answer_text.Goals as goal

pub ordered-requires : goal.ordered-requires
ordered-requires g c = (c.type_bounds.sync-R, rw c.as_slice.ensures c.requires.answer.each)

pub text-requires-clause-rows : goal.text-requires-clause-rows
text-requires-clause-rows g c =
    let q = c.args.bound.now.query in
    let tables = c.args.tables.now in
    let is = c.requires.answer.sorts c.in_ok-answer.answer.rows (rw c.as_slice.ensures at c.in_ok-answer.ensures.turned) c.in_ok-answer.ensures.sorted in
    subst (λ (rows : List (List ℕ)). All (AreRowNumbers q tables) rows) (sym is) (answer_of-ranges q tables)

pub returns : goal.returns
returns g c =
    let q = c.args.bound.now.query in
    let tables = c.args.tables.now in
    let is = c.requires.answer.sorts c.in_ok-answer.answer.rows (rw c.as_slice.ensures at c.in_ok-answer.ensures.turned) c.in_ok-answer.ensures.sorted in
    subst (λ (rows : List (List ℕ)). IfOk c.text.result (λ text. text.items ≡ output_text q tables rows)) is c.text.ensures
