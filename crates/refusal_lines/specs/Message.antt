-- The line of a refusal, and its status.
use Rattle.std.specs.Prelude.{ℕ, List, [], ◌∷◌, ◌++◌, codes}
use Rattle.std.specs.Fmt.{decimal}
use Rattle.std.specs.List.{flat_map}
use Rattle.script_rules.specs.declared.kinds.BindKind.{BindKind}
use Rattle.script_rules.specs.declared.kinds.BindKind.TheVariants as bind
use Rattle.refusal_lines.specs.declared.message.Part.{Part}
use Rattle.refusal_lines.specs.declared.message.Part.TheVariants as part
use Rattle.refusal_lines.specs.declared.errors.Refusal.{Refusal}
use Rattle.refusal_lines.specs.declared.errors.Refusal.TheVariants.{Usage, ReadFault, TooLarge, Lex, Syntax, TooDeep, Bind}
use Rattle.refusal_lines.specs.declared.errors.Refusal.TheVariants.{Cyclic, OrderNames, UnsafeOrder, Header, Ragged}
use Rattle.refusal_lines.specs.declared.errors.Refusal.TheVariants.{BadField, NotUtf8, TooManyRows, RowsOverflow, WriteFault, Memory}

abbrev pub status_of : Refusal → ℕ
status_of Usage = 2
status_of (ReadFault name) = 3
status_of (TooLarge name) = 10
status_of (Lex offset) = 5
status_of (Syntax offset) = 5
status_of (TooDeep offset) = 5
status_of (Bind kind offset) = 6
status_of (Cyclic best needed) = 8
status_of OrderNames = 2
status_of (UnsafeOrder prefix) = 9
status_of (Header table column) = 7
status_of (Ragged table row) = 7
status_of (BadField table row column) = 7
status_of (NotUtf8 table row column) = 7
status_of TooManyRows = 10
status_of (RowsOverflow prefix) = 10
status_of WriteFault = 4
status_of Memory = 1

abbrev pub line_end : List ℕ
line_end = 10 ∷ []

-- why a script isn't bound
abbrev pub text_of : BindKind → List ℕ
text_of bind.BadTableName = codes "bad table name"
text_of bind.DuplicateTable = codes "duplicate table"
text_of bind.TooManyColumns = codes "too many columns"
text_of bind.DuplicateColumn = codes "duplicate column"
text_of bind.UnknownTable = codes "unknown table"
text_of bind.DuplicateAlias = codes "duplicate relation"
text_of bind.TooManyRelations = codes "too many relations"
text_of bind.UnknownColumn = codes "unknown column"
text_of bind.Ambiguous = codes "ambiguous column"
text_of bind.TypeMismatch = codes "type mismatch"
text_of bind.NotEquiJoin = codes "not an equality join"

-- pieces one after the other, and the end of the line
abbrev pub line : List (List ℕ) → List ℕ
line [] = line_end
line (piece ∷ pieces) = piece ++ line pieces

-- the line of a field that is refused
abbrev pub field_line : List ℕ → List ℕ → ℕ → List ℕ → List ℕ
field_line table what row column =
    line (codes "rpt: " ∷ table ∷ what ∷ decimal row ∷ codes " column " ∷ column ∷ [])

-- the line of a refusal
abbrev pub line_of : Refusal → List ℕ
line_of Usage =
    line (codes "rpt: usage: rpt run|explain|check|sample SCRIPT DIR"
    ∷ codes " [--filter bloom|exact|none] [--workers N] [--morsel N] [--order A,B] [--force]" ∷ [])
line_of (ReadFault name) = line (codes "rpt: cannot read " ∷ name ∷ [])
line_of (TooLarge name) = line (codes "rpt: too large: " ∷ name ∷ [])
line_of (Lex offset) = line (codes "rpt: bad token at " ∷ decimal offset ∷ [])
line_of (Syntax offset) = line (codes "rpt: syntax error at " ∷ decimal offset ∷ [])
line_of (TooDeep offset) = line (codes "rpt: nested too deep at " ∷ decimal offset ∷ [])
line_of (Bind kind offset) = line (codes "rpt: " ∷ text_of kind ∷ codes " at " ∷ decimal offset ∷ [])
line_of (Cyclic best needed) =
    line (codes "rpt: cyclic: weight " ∷ decimal best ∷ codes " of " ∷ decimal needed ∷ [])
line_of OrderNames = line (codes "rpt: order is not a permutation of the relations" ∷ [])
line_of (UnsafeOrder prefix) = line (codes "rpt: unsafe order at prefix " ∷ decimal prefix ∷ [])
line_of (Header table column) = line (codes "rpt: " ∷ table ∷ codes ": header column " ∷ column ∷ [])
line_of (Ragged table row) = line (codes "rpt: " ∷ table ∷ codes ": ragged row " ∷ decimal row ∷ [])
line_of (BadField table row column) = field_line table (codes ": bad field at row ") row column
line_of (NotUtf8 table row column) = field_line table (codes ": not UTF-8 at row ") row column
line_of TooManyRows = line (codes "rpt: too many rows" ∷ [])
line_of (RowsOverflow prefix) = line (codes "rpt: too many joined rows at prefix " ∷ decimal prefix ∷ [])
line_of WriteFault = line (codes "rpt: cannot write" ∷ [])
line_of Memory = line (codes "rpt: out of memory" ∷ [])

-- a part of a line: a text, or a number in decimal
abbrev pub part_text : Part → List ℕ
part_text (part.Text text) = text.now
part_text (part.Number n) = decimal n

-- the text of a line's parts
abbrev pub parts_text : List Part → List ℕ
parts_text parts = flat_map part_text parts
