use Rattle.std.proofs.Common.{◌≡◌, ◌≤◌, ap, arith, length, get_or, ◌++◌, []}
use Rattle.std.proofs.lemmas.Grind.{elements}
use Rattle.std.proofs.lemmas.List.{take_all}
use Rattle.std.proofs.lemmas.Option.{get_or_from_slice_get}
use Rattle.row_output.specs.OutputText.{rows_text}
use Rattle.row_output.proofs.TextFacts.{HasWritten-is, rows_text-more}
use Rattle.row_output.proofs.output.write_rows.Goals as goal

pub rows-preserved : goal.rows-preserved
rows-preserved c text h =
    let rows = c.args.answer.now.rows in
    let at : get_or rows c.rows.row [] ≡ c.row.result.now = get_or_from_slice_get rows c.rows.row c.row.result.now [] c.row.ensures.row in
    let more = rows_text-more c.args.bound.now.query c.args.tables.now rows c.rows.row text (omega arith) in
    HasWritten-is _ _ _ (rw at at more) (c.in_ok-write_row.ensures _ (c.rows.invariant text h))

pub returns : goal.returns
returns c text h =
    let gone : length c.args.answer.now.rows ≤ c.rows.row = omega arith in
    let all = take_all c.rows.row c.args.answer.now.rows gone in
    HasWritten-is _ _ _ (ap (λ rows. text ++ rows_text c.args.bound.now.query c.args.tables.now rows) all) (c.rows.invariant text h)

pub write_row-requires-clause-numbers : goal.write_row-requires-clause-numbers
write_row-requires-clause-numbers c = grind (arith, elements)
