-- Files that are held in memory, as pairs of a name and its bytes.
-- Words of this crate's own contracts.
use Rattle.std.specs.Prelude.{ℕ, ◌==◌, zero, suc, nat_lt, Bool, false, not, if◌then◌else◌, Option, None, Some}
use Rattle.std.specs.Prelude.{List, [], ◌∷◌, Vec, drop, length, slice_index_or, bytes_eq}
use Rattle.std.specs.List.{position_or_len}

-- the place of the first file of a name, or the number of files
abbrev pub place : {Z : Type 0} → List (Vec ℕ Z × Vec ℕ Z) → List ℕ → ℕ
place files name = position_or_len (λ file. bytes_eq file.0.items name) files

-- the bytes of the file at a place, or none past the end
abbrev pub bytes_at : {Z : Type 0} → List (Vec ℕ Z × Vec ℕ Z) → ℕ → List ℕ
bytes_at [] i = []
bytes_at (file ∷ files) zero = file.1.items
bytes_at (file ∷ files) (suc i) = bytes_at files i

-- the bytes of the first file of a name; none, where there is no such file
abbrev pub held_bytes : {Z : Type 0} → List (Vec ℕ Z × Vec ℕ Z) → List ℕ → List ℕ
held_bytes files name = bytes_at files (place files name)

-- the contents of the first file of a name, if there is one
abbrev pub contents_of : {Z : Type 0} → List (Vec ℕ Z × Vec ℕ Z) → List ℕ → Option (List ℕ)
contents_of files name =
    if nat_lt (place files name) (length files) then Some (bytes_at files (place files name)) else None

-- no file has the name
abbrev pub is_missing_among : {Z : Type 0} → List (Vec ℕ Z × Vec ℕ Z) → List ℕ → Bool
is_missing_among files name = not (nat_lt (place files name) (length files))

-- the count of a name; the last count is that of all names without a file
abbrev pub count_of : {Z : Type 0} → List (Vec ℕ Z × Vec ℕ Z) → List ℕ → List ℕ → ℕ
count_of files counts name = slice_index_or counts (place files name) 0

-- whether the started file, if there is one, is at this place
abbrev pub is_at : Option ℕ → ℕ → Bool
is_at None i = false
is_at (Some started) i = started == i

-- what is left of the started file from an offset on; nothing, where none is started
abbrev pub left_of : {Z : Type 0} → List (Vec ℕ Z × Vec ℕ Z) → Option ℕ → ℕ → Option (List ℕ)
left_of files None at = Some []
left_of files (Some started) at = Some (drop at (bytes_at files started))
