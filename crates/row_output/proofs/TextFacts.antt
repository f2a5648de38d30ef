-- The text of an answer, one row more.
use Rattle.std.proofs.Common.{◌≡◌, ◌∙◌, ap, sym, subst, ℕ, ◌+◌, ◌<◌, List, [], ◌∷◌, ◌++◌, length, get_or, take, Vec, append_assoc}
use Rattle.std.proofs.lemmas.List.{take_more}
use Rattle.std.proofs.lemmas.Grind.{flat_map-append}
use Rattle.csv.specs.Writing.{default_writer, row_text}
use Rattle.csv.specs.declared.writer.Writer.{Writer}
use Rattle.column_table.specs.Table.{Rows}
use Rattle.bound_query.specs.Query.{Query}
use Rattle.row_output.specs.OutputText.{cells, rows_text}
use Rattle.row_output.specs.Writing.{HasWritten}

pub rows_text-more : (q : Query) (tables : List Rows) (rows : List (List ℕ)) (k : ℕ) (text : List ℕ) → k < length rows
    → (text ++ rows_text q tables (take k rows)) ++ rows_text q tables (get_or rows k [] ∷ []) ≡ text ++ rows_text q tables (take (k + 1) rows)
rows_text-more q tables rows k text lt =
    append_assoc text _ _
    ∙ ap (λ t. text ++ t) (sym (flat_map-append (λ numbers. row_text default_writer (cells q tables q.output numbers)) (take k rows) (get_or rows k [] ∷ [])) ∙ ap (rows_text q tables) (sym (take_more rows k [] lt)))

-- a writer that has written one text has written an equal one
pub HasWritten-is : {Z : Type 0} (w : Writer (Vec ℕ Z)) (text other : List ℕ) → text ≡ other → HasWritten w text → HasWritten w other
HasWritten-is w text other e h = subst (λ (t : List ℕ). HasWritten w t) e h
