use Rattle.std.proofs.Common.{List, ℕ, ◌++◌, take}
use Rattle.row_output.specs.OutputText.{rows_text}
use Rattle.row_output.specs.Writing.{HasWritten}
use Rattle.row_output.proofs.output.write_rows.Given as goal

-- the rows so far are written behind what was written before
abbrev pub invariant-rows : goal.invariant-rows
invariant-rows l = (text : List ℕ) → HasWritten l.fn.writer text → HasWritten l.writer (text ++ rows_text l.bound.query l.tables (take l.row l.answer.rows))
