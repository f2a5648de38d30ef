-- The text of an answer.
use Rattle.std.specs.Prelude.{ℕ, List, ◌++◌, map}
use Rattle.std.specs.List.{flat_map}
use Rattle.csv.specs.Writing.{default_writer, row_text}
use Rattle.rpt_base.specs.declared.values.Value.{Value}
use Rattle.rpt_base.specs.declared.values.Value.TheVariants as value
use Rattle.column_table.specs.Table.{Rows}
use Rattle.column_table.specs.FieldText.{field_text}
use Rattle.bound_query.specs.declared.output.OutColumn.{OutColumn}
use Rattle.bound_query.specs.Query.{Query}
use Rattle.bound_query.specs.Answer.{tuple_value}

-- the titles
abbrev pub titles : List OutColumn → List (List ℕ)
titles columns = map (λ (c : OutColumn). c.title) columns

-- the texts of the selected cells, in the rows that a list of row numbers names
abbrev pub cells : Query → List Rows → List OutColumn → List ℕ → List (List ℕ)
cells q tables columns numbers = map (λ (c : OutColumn). field_text (tuple_value q tables numbers c.source)) columns

-- a record for each row of the answer
abbrev pub rows_text : Query → List Rows → List (List ℕ) → List ℕ
rows_text q tables rows = flat_map (λ numbers. row_text default_writer (cells q tables q.output numbers)) rows

-- the record of the titles, and then one for each row of the answer
abbrev pub output_text : Query → List Rows → List (List ℕ) → List ℕ
output_text q tables rows = row_text default_writer (titles q.output) ++ rows_text q tables rows
