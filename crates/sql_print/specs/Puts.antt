-- What putting pieces does to a text.
-- Words of this crate's own contracts.
use Rattle.std.specs.Prelude.{◌≡◌, ℕ, List, [], ◌++◌}
use Rattle.sql_print.specs.Pieces.{Piece, shown_text, ArePieces}
use Rattle.sql_print.specs.Printed.{script_pieces, printed_text}
use Rattle.sql_grammar.specs.declared.tree.Script.{Script}

-- The text gained these pieces, each of which a script can hold: however it goes on, the whole is shown.
pub record Puts (pieces : List Piece → List Piece) (old new : List ℕ) : Type 0 where
  pub shows : (more : List Piece) → old ++ shown_text (pieces more) ≡ new ++ shown_text more
  pub holds : (more : List Piece) → ArePieces more → ArePieces (pieces more)

-- the text is the printed script, and each of its pieces is one that a script can hold
abbrev pub IsShown : Script → List ℕ → Type 0
IsShown script text = (text ≡ printed_text script) × ArePieces (script_pieces script [])

-- Of these pieces the text gained the first ones, and the rest is left.
pub record Leaves (whole rest : List Piece → List Piece) (old new : List ℕ) : Type 0 where
  pub shows : (more : List Piece) → old ++ shown_text (whole more) ≡ new ++ shown_text (rest more)
  pub holds : (more : List Piece) → ArePieces (rest more) → ArePieces (whole more)
