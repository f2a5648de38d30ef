-- What mode sample writes of an answer, and over which files it is found.
use Rattle.std.specs.Prelude.{ℕ, ◌-◌, ◌*◌, ◌/◌, ◌%◌, ◌^◌, List, [], ◌∷◌, ◌++◌, bytes_eq, codes, if◌then◌else◌, length, map, slice_index}
use Rattle.std.specs.Fmt.{decimal}
use Rattle.std.specs.List.{range_with_len}
use Rattle.key_codes.specs.Hashes.{fnv}
use Rattle.rpt_cli.specs.Tables.{table_file}

-- The tables of a name and a text each are the files of a folder: the bytes of the first one that has this name, and none where there is
-- no such file.
abbrev pub file_bytes : List ℕ → List (List ℕ × List ℕ) → List ℕ → List ℕ
file_bytes folder [] name = []
file_bytes folder (table ∷ tables) name =
    if bytes_eq (table_file folder table.0) name then table.1 else file_bytes folder tables name

-- one of the 16 hexadecimal digits of a hash, by its place from 0, from the highest on
abbrev pub hex_digit : ℕ → ℕ → ℕ
hex_digit hash place = slice_index (codes "0123456789abcdef") (hash / 2 ^ (60 - 4 * place) % 16)

abbrev pub hex_text : ℕ → List ℕ
hex_text hash = map (hex_digit hash) (range_with_len 0 16)

-- how many bytes a text has, and its hash
abbrev pub size_line : ℕ → List ℕ
size_line bytes = codes "output bytes " ++ decimal bytes ++ 10 ∷ []

abbrev pub hash_line : ℕ → List ℕ
hash_line hash = codes "output fnv " ++ hex_text hash ++ 10 ∷ []

unfoldable pub size_lines : List ℕ → List ℕ
size_lines text = size_line (length text) ++ hash_line (fnv text)
