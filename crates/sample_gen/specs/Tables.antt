-- The tables of a sample. Rows are numbered from 0, and so are the draws that they are made of: the first 2,000 are those of
-- the customers, the next 20,000 those of the orders, and from 22,000 on each item has two.
use Rattle.std.specs.Prelude.{ℕ, ◌+◌, ◌*◌, ◌%◌, List, [], ◌∷◌, ◌++◌, Vec, codes}
use Rattle.std.specs.Fmt.{decimal}
use Rattle.std.specs.List.{flat_map, range_with_len}
use Rattle.sample_gen.specs.Draws.{draw}

-- a header and a row end with a line feed
abbrev pub line_end : List ℕ
line_end = 10 ∷ []

-- the lines of so many rows, each by its number
unfoldable pub rows_text : (ℕ → List ℕ) → ℕ → List ℕ
rows_text row count = flat_map row (range_with_len 0 count)

-- a nation's number and its name
abbrev pub nation_row : ℕ → List ℕ
nation_row i = decimal i ++ codes ",nation_" ++ decimal i ++ line_end

-- a row's number, and its draw modulo a bound, where the first row's draw is the one at `first`
abbrev pub pair_row : ℕ → ℕ → ℕ → ℕ → List ℕ
pair_row number first bound i = decimal i ++ codes "," ++ decimal (draw number (first + i) % bound) ++ line_end

-- an item's number, and two draws: its order, and then its quantity
abbrev pub item_row : ℕ → ℕ → ℕ → List ℕ
item_row number first i =
    decimal i
    ++ codes "," ++ decimal (draw number (first + 2 * i) % 25000)
    ++ codes "," ++ decimal (draw number (first + 2 * i + 1) % 50)
    ++ line_end

-- the text of each table: a header, and then its rows
abbrev pub nations_text : List ℕ
nations_text = codes "id,name" ++ line_end ++ rows_text nation_row 25

abbrev pub customers_text : ℕ → List ℕ
customers_text number = codes "id,nation" ++ line_end ++ rows_text (pair_row number 0 25) 2000

abbrev pub orders_text : ℕ → List ℕ
orders_text number = codes "id,customer" ++ line_end ++ rows_text (pair_row number 2000 2500) 20000

abbrev pub items_text : ℕ → List ℕ
items_text number = codes "id,order_id,qty" ++ line_end ++ rows_text (item_row number 22000) 60000

-- the name of each table, and its text
unfoldable pub sample_tables : ℕ → List (List ℕ × List ℕ)
sample_tables number =
    (codes "nations", nations_text)
    ∷ (codes "customers", customers_text number)
    ∷ (codes "orders", orders_text number)
    ∷ (codes "items", items_text number)
    ∷ []

-- a name, and the bytes of the text beside it
abbrev pub named_text : {Z : Type 0} → List ℕ × Vec ℕ Z → List ℕ × List ℕ
named_text (name, text) = (name, text.items)
