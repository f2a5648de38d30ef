-- Hashes of bytes and of keys, byte by byte and value by value.
use Rattle.std.proofs.Common.{◌≡◌, ◌∙◌, refl, ap, ℕ, ◌+◌, ◌<◌, List, [], ◌∷◌, ◌++◌, length, get_or, take, arith}
use Rattle.std.proofs.lemmas.Grind.{flat_map-append}
use Rattle.std.proofs.lemmas.List.{append-nil, get_or-map, length-map, take_more}
use Rattle.rpt_base.specs.declared.values.Value.{Value}
use Rattle.key_codes.specs.Hashes.{fnv_from, key_bytes, value_bytes, with_byte}
use Rattle.key_codes.specs.Keys.{item_key, item_value}
use Rattle.column_table.specs.Table.{value_at}
use Rattle.key_codes.specs.declared.keys.KeyRows.{KeyRows}

pub fnv-append : (hash : ℕ) (xs ys : List ℕ) → fnv_from hash (xs ++ ys) ≡ fnv_from (fnv_from hash xs) ys
fnv-append hash [] ys = refl
fnv-append hash (x ∷ xs) ys = fnv-append (with_byte hash x) xs ys

-- the bytes of the first values of an item's key, and of one value more
pub key-more : (hash : ℕ) (keys : KeyRows) (item place : ℕ) → place < length keys.columns.now
    → fnv_from hash (key_bytes (take (place + 1) (item_key keys item)))
    ≡ fnv_from (fnv_from hash (key_bytes (take place (item_key keys item)))) (value_bytes (item_value keys item place))
key-more hash keys item place lt =
    let columns = keys.columns.now in
    let at : ℕ → Value = value_at keys.table.now (get_or keys.rows.now item 0) in
    let key : List Value = item_key keys item in
    let front : List Value = take place key in
    let value : Value = item_value keys item place in
    let longer : take (place + 1) key ≡ front ++ value ∷ [] =
    take_more key place (at 0) (omega (arith, lt, length-map columns at)) ∙ ap (λ (v : Value). front ++ v ∷ []) (get_or-map at columns place 0 (at 0) lt) in
    ap (λ (vs : List Value). fnv_from hash (key_bytes vs)) longer
    ∙ ap (fnv_from hash) (flat_map-append value_bytes front (value ∷ []))
    ∙ fnv-append hash (key_bytes front) (value_bytes value ++ [])
    ∙ ap (fnv_from (fnv_from hash (key_bytes front))) (append-nil (value_bytes value))
