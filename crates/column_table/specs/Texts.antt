-- Texts whose bytes stand one after another.
-- Words of this crate's own contracts.
use Rattle.std.specs.Prelude.{ℕ, ◌-◌, ◌≤◌, List, [], ◌∷◌, IsTrue, length, take, drop}
use Rattle.std.specs.List.{list_all}
use Rattle.std.specs.Str.{is_utf8}

-- the texts that end at these places, the first of which starts here
abbrev pub pieces : ℕ → List ℕ → List ℕ → List (List ℕ)
pieces start bytes [] = []
pieces start bytes (end ∷ ends) = take (end - start) (drop start bytes) ∷ pieces end bytes ends

-- the ends rise from a start up to a limit
abbrev pub Rise : ℕ → List ℕ → ℕ → Type 0
Rise start [] limit = start ≤ limit
Rise start (end ∷ ends) limit = (start ≤ end) × Rise end ends limit

-- each text lies within the bytes, and is UTF-8
pub record ArePieces (bytes ends : List ℕ) : Type 0 where
  pub rise : Rise 0 ends (length bytes)
  pub utf8 : IsTrue (list_all is_utf8 (pieces 0 bytes ends))
