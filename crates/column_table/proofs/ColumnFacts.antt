-- Columns, and the rows that they show.
use Rattle.std.proofs.Common.{◌≡◌, ◌∙◌, sym, refl, ap, ℕ, zero, suc, ◌+◌, ◌<◌, ◌≤◌, List, [], ◌∷◌, ◌++◌, length, get_or, map, set, take, pos, ℤ, Some, arith, add-one}
use Rattle.std.specs.Prelude.{IsSomeAnd, IsTrue, slice_get}
use Rattle.std.specs.List.{list_all, range_with_len}
use Rattle.std.proofs.lemmas.Bool.{and_parts, and_from, false≢true}
use Rattle.std.proofs.lemmas.List.{get_or_append_left, get_or-take, get_or_push, length-take-le, map-append, take-map, length-map, length-set, get_or-map, take_more_set, take-set, take_all, length_push}
use Rattle.std.proofs.lemmas.Option.{slice_get_within, get_or_from_slice_get, slice_get-get_or}
use Rattle.std.proofs.lemmas.List.FromFn.{length-range_with_len, get_or-range_with_len, length-map-range_with_len, get_or-map-range_with_len, map-range_with_len_more}
use Rattle.rpt_base.specs.declared.limits.TheConstants.{MAX_ROWS}
use Rattle.rpt_base.specs.declared.values.ColumnType.{ColumnType}
use Rattle.rpt_base.specs.declared.values.ColumnType.TheVariants as kind
use Rattle.rpt_base.specs.declared.values.Value.{Value}
use Rattle.rpt_base.specs.declared.values.Value.TheVariants as value
use Rattle.column_table.specs.Table.{OpenTable, has_type, has_types, value_there}
use Rattle.column_table.specs.Columns.{OneColumn, HasValues, HaveRows, IsOpenTable, cut, put, value_in, row_in, open_table_of}
use Rattle.column_table.proofs.ListFacts.{all-take, all-push, all-at, all-from, map-kept}
use Rattle.rpt_base.proofs.RangeFacts.{map-range}
use Rattle.column_table.proofs.RowFacts.{types-length}

-- ---- one column

-- a number was put into a column of numbers
pub ints-put : (column : OneColumn) (old new : List ℤ) (n : ℕ) (z : ℤ) → record { kind = kind.Int; values = map value.Int old } ≡ column → new ≡ take n old ++ z ∷ []
    → record { kind = kind.Int; values = map value.Int new } ≡ put column n (value.Int z)
ints-put column old new n z same is =
    let more : map value.Int (take n old ++ z ∷ []) ≡ take n (map value.Int old) ++ value.Int z ∷ [] = rw (map-append, ← take-map value.Int n old) refl in
    rw (← same, is, more) refl

-- the same of texts
pub texts-put : (column : OneColumn) (old new : List (List ℕ)) (n : ℕ) (text : List ℕ) → record { kind = kind.Text; values = map value.Text old } ≡ column → new ≡ take n old ++ text ∷ []
    → record { kind = kind.Text; values = map value.Text new } ≡ put column n (value.Text text)
texts-put column old new n text same is =
    let more : map value.Text (take n old ++ text ∷ []) ≡ take n (map value.Text old) ++ value.Text text ∷ [] = rw (map-append, ← take-map value.Text n old) refl in
    rw (← same, is, more) refl

-- a text was refused
pub texts-cut : (column : OneColumn) (old new : List (List ℕ)) (n : ℕ) → record { kind = kind.Text; values = map value.Text old } ≡ column → new ≡ take n old
    → record { kind = kind.Text; values = map value.Text new } ≡ cut column n
texts-cut column old new n same is = rw (← same, is, take-map value.Text n old) refl

-- a put or a refused value leaves the values before it
cut-keeps : (c : OneColumn) (n r : ℕ) → r < n → value_in r (cut c n) ≡ value_in r c
cut-keeps c n r h = get_or-take n c.values r (value.Int (pos 0)) h

put-keeps : (c : OneColumn) (n r : ℕ) (v : Value) → n ≤ length c.values → r < n → value_in r (put c n v) ≡ value_in r c
put-keeps c n r v long h =
    get_or_append_left (take n c.values) (v ∷ []) (value.Int (pos 0)) r (omega (arith, length-take-le n c.values long)) ∙ cut-keeps c n r h

put-last : (c : OneColumn) (n : ℕ) (v : Value) → n ≤ length c.values → value_in n (put c n v) ≡ v
put-last c n v long = get_or_push (take n c.values) v (value.Int (pos 0)) n (length-take-le n c.values long)

fewer : (rows : ℕ) (c : OneColumn) → HasValues (suc rows) c → HasValues rows c
fewer rows c h = record { enough = omega (arith, h.enough); typed = h.typed }

has-cut : (rows : ℕ) (c : OneColumn) → HasValues rows c → HasValues rows (cut c rows)
has-cut rows c h = record { enough = omega (arith, length-take-le rows c.values h.enough); typed = all-take (has_type c.kind) rows c.values h.typed }

has-put : (rows : ℕ) (c : OneColumn) (v : Value) → HasValues rows c → IsTrue (has_type c.kind v) → HasValues (suc rows) (put c rows v)
has-put rows c v h t = record {
  enough = omega (arith, length_push (take rows c.values) v, length-take-le rows c.values h.enough);
  typed = all-push (has_type c.kind) (take rows c.values) v (all-take (has_type c.kind) rows c.values h.typed) t;
}

-- ---- all columns

pub have-filled : (rows filled : ℕ) (columns : List OneColumn) → HaveRows rows filled columns → filled ≤ length columns
have-filled rows filled [] h = omega (arith, h)
have-filled rows zero (c ∷ columns) h = omega arith
have-filled rows (suc filled) (c ∷ columns) h = omega (arith, have-filled rows filled columns h.1)

pub have-at : (rows filled : ℕ) (columns : List OneColumn) (i : ℕ) (d : OneColumn) → HaveRows rows filled columns → i < length columns → HasValues rows (get_or columns i d)
have-at rows filled [] i d h lt = absurd (omega arith)
have-at rows zero (c ∷ columns) zero d h lt = h.0
have-at rows zero (c ∷ columns) (suc i) d h lt = have-at rows zero columns i d h.1 (omega arith)
have-at rows (suc filled) (c ∷ columns) zero d h lt = fewer rows c h.0
have-at rows (suc filled) (c ∷ columns) (suc i) d h lt = have-at rows filled columns i d h.1 (omega arith)

have-restart : (rows filled : ℕ) (columns : List OneColumn) → HaveRows rows filled columns → HaveRows rows 0 columns
have-restart rows filled [] h = refl
have-restart rows zero (c ∷ columns) h = h
have-restart rows (suc filled) (c ∷ columns) h = (fewer rows c h.0, have-restart rows filled columns h.1)

have-end : (rows : ℕ) (columns : List OneColumn) → HaveRows rows (length columns) columns → HaveRows (suc rows) 0 columns
have-end rows [] h = refl
have-end rows (c ∷ columns) h = (h.0, have-end rows columns h.1)

have-put : (rows filled : ℕ) (columns : List OneColumn) (c : OneColumn) → HaveRows rows filled columns → filled < length columns → HasValues (suc rows) c
    → HaveRows rows (suc filled) (set columns filled c)
have-put rows filled [] c h lt here = absurd (omega arith)
have-put rows zero (d ∷ columns) c h lt here = (here, h.1)
have-put rows (suc filled) (d ∷ columns) c h lt here = (h.0, have-put rows filled columns c h.1 (omega arith) here)

have-cut : (rows filled : ℕ) (columns : List OneColumn) (c : OneColumn) → HaveRows rows filled columns → filled < length columns → HasValues rows c
    → HaveRows rows filled (set columns filled c)
have-cut rows filled [] c h lt here = absurd (omega arith)
have-cut rows zero (d ∷ columns) c h lt here = (here, h.1)
have-cut rows (suc filled) (d ∷ columns) c h lt here = (h.0, have-cut rows filled columns c h.1 (omega arith) here)

-- a column that agrees with the one that it replaces
rows-kept : (columns : List OneColumn) (rows i : ℕ) (c d : OneColumn) → i < length columns → ((r : ℕ) → r < rows → value_in r c ≡ value_in r (get_or columns i d))
    → map (row_in (set columns i c)) (range_with_len 0 rows) ≡ map (row_in columns) (range_with_len 0 rows)
rows-kept columns rows i c d lt same =
    map-range (row_in (set columns i c)) (row_in columns) 0 rows (λ r h. map-kept (value_in r) columns i c d lt (same r (omega arith)))

-- ---- what the table's calls do

-- what the columns show
pub record Shows (columns : List OneColumn) (rows filled : ℕ) (table : OpenTable) : Type 0 where
  pub are : IsOpenTable columns rows filled
  pub shows : open_table_of columns rows filled ≡ table

-- the column that is to be filled next
pub record IsNext (columns : List OneColumn) (rows filled : ℕ) (k : ColumnType) (o : OneColumn) : Type 0 where
  pub within : filled < length columns
  pub is : o ≡ get_or columns filled o
  pub kind : o.kind ≡ k
  pub has : HasValues rows o

started-length : (columns : List OneColumn) (rows filled : ℕ) → filled ≤ length columns → length (map (value_in rows) (take filled columns)) ≡ filled
started-length columns rows filled le = length-map (take filled columns) (value_in rows) ∙ length-take-le filled columns le

pub next-is : (columns : List OneColumn) (rows filled : ℕ) (table : OpenTable) (k : ColumnType) (o : OneColumn) → IsOpenTable columns rows filled → open_table_of columns rows filled ≡ table
    → slice_get table.kinds (length table.started) ≡ Some k → o ≡ get_or columns filled o → IsNext columns rows filled k o
next-is columns rows filled table k o h same next is =
    let le : filled ≤ length columns = have-filled rows filled columns h.have in
    let here : slice_get (map (λ (c : OneColumn). c.kind) columns) filled ≡ Some k =
    rw (← started-length columns rows filled le) (rw (← same) at next) in
    let lt : filled < length columns = omega (arith, slice_get_within (map (λ (c : OneColumn). c.kind) columns) filled k here, length-map columns (λ (c : OneColumn). c.kind)) in
    record {
      within = lt;
      is = is;
      kind = ap (λ (c : OneColumn). c.kind) is ∙ sym (get_or-map (λ (c : OneColumn). c.kind) columns filled o k lt) ∙ get_or_from_slice_get (map (λ (c : OneColumn). c.kind) columns) filled k k here;
      has = rw is (have-at rows filled columns filled o h.have lt);
    }

-- the next column was refused a value
pub shows-cut : (columns : List OneColumn) (rows filled : ℕ) (table : OpenTable) (k : ColumnType) (o c : OneColumn) → IsOpenTable columns rows filled → open_table_of columns rows filled ≡ table
    → IsNext columns rows filled k o → c ≡ cut o rows → Shows (set columns filled c) rows filled table
shows-cut columns rows filled table k o c h same n is =
    let old : o ≡ get_or columns filled o = n.is in
    let kinds : map (λ (d : OneColumn). d.kind) (set columns filled c) ≡ map (λ (d : OneColumn). d.kind) columns =
    map-kept (λ (d : OneColumn). d.kind) columns filled c o n.within (ap (λ (d : OneColumn). d.kind) is ∙ ap (λ (d : OneColumn). d.kind) old) in
    let rows_are = rows-kept columns rows filled c o n.within (λ r lt. ap (value_in r) is ∙ cut-keeps o rows r lt ∙ ap (value_in r) old) in
    let started : take filled (set columns filled c) ≡ take filled columns = take-set columns filled c in
    record {
      are = record {
        have = have-cut rows filled columns c h.have n.within (rw is (has-cut rows o n.has));
        few_rows = h.few_rows;
        few_columns = rw length-set h.few_columns;
      };
      shows = rw (kinds, rows_are, started) same;
    }

-- the next column was given a value
pub shows-put : (columns : List OneColumn) (rows filled : ℕ) (table : OpenTable) (k : ColumnType) (o c : OneColumn) (v : Value) → IsOpenTable columns rows filled → open_table_of columns rows filled ≡ table
    → IsNext columns rows filled k o → IsTrue (has_type k v) → c ≡ put o rows v
    → Shows (set columns filled c) rows (filled + 1) (record table { started = table.started ++ v ∷ [] })
shows-put columns rows filled table k o c v h same n t is =
    let old : o ≡ get_or columns filled o = n.is in
    let kinds : map (λ (d : OneColumn). d.kind) (set columns filled c) ≡ map (λ (d : OneColumn). d.kind) columns =
    map-kept (λ (d : OneColumn). d.kind) columns filled c o n.within (ap (λ (d : OneColumn). d.kind) is ∙ ap (λ (d : OneColumn). d.kind) old) in
    let rows_are = rows-kept columns rows filled c o n.within (λ r lt. ap (value_in r) is ∙ put-keeps o rows r v n.has.enough lt ∙ ap (value_in r) old) in
    let last : value_in rows c ≡ v = ap (value_in rows) is ∙ put-last o rows v n.has.enough in
    let started : map (value_in rows) (take (filled + 1) (set columns filled c)) ≡ map (value_in rows) (take filled columns) ++ v ∷ [] =
    ap (map (value_in rows)) (take_more_set columns filled c n.within) ∙ map-append (value_in rows) (take filled columns) (c ∷ []) ∙ ap (λ w. map (value_in rows) (take filled columns) ++ w ∷ []) last in
    record {
      are = record {
        have = rw add-one (have-put rows filled columns c h.have n.within (rw is (has-put rows o v n.has (rw n.kind t))));
        few_rows = h.few_rows;
        few_columns = rw length-set h.few_columns;
      };
      shows = rw (kinds, rows_are, started) (ap (λ (b : OpenTable). record b { started = b.started ++ v ∷ [] }) same);
    }

-- the row that has begun is given up
pub shows-restart : (columns : List OneColumn) (rows filled : ℕ) → IsOpenTable columns rows filled → IsOpenTable columns rows 0
shows-restart columns rows filled h = record { have = have-restart rows filled columns h.have; few_rows = h.few_rows; few_columns = h.few_columns }

-- it is full, and becomes the last
pub shows-end : (columns : List OneColumn) (rows filled : ℕ) (table : OpenTable) → IsOpenTable columns rows filled → open_table_of columns rows filled ≡ table
    → length table.started ≡ length table.kinds → rows < MAX_ROWS
    → Shows columns (rows + 1) 0 (record { kinds = table.kinds; rows = table.rows ++ table.started ∷ []; started = [] })
shows-end columns rows filled table h same full room =
    let le : filled ≤ length columns = have-filled rows filled columns h.have in
    let all : filled ≡ length columns = omega (arith, started-length columns rows filled le, length-map columns (λ (c : OneColumn). c.kind), rw (← same) at full) in
    let whole : take filled columns ≡ columns = take_all filled columns (omega arith) in
    let more : map (row_in columns) (range_with_len 0 (rows + 1)) ≡ map (row_in columns) (range_with_len 0 rows) ++ row_in columns rows ∷ [] =
    map-range_with_len_more (row_in columns) 0 rows rows (omega arith) in
    let last : row_in columns rows ≡ table.started = ap (map (value_in rows)) (sym whole) ∙ ap (λ (b : OpenTable). b.started) same in
    record {
      are = record {
        have = rw add-one (have-end rows columns (rw all at h.have));
        few_rows = omega arith;
        few_columns = h.few_columns;
      };
      shows = rw (more, last) (ap (λ (b : OpenTable). record { kinds = b.kinds; rows = b.rows ++ table.started ∷ []; started = [] }) same);
    }

-- the number of rows
pub rows-count : (columns : List OneColumn) (rows filled : ℕ) (table : OpenTable) → open_table_of columns rows filled ≡ table → length table.rows ≡ rows
rows-count columns rows filled table same = ap (λ (b : OpenTable). length b.rows) (sym same) ∙ length-map-range_with_len (row_in columns) 0 rows

-- a value of a column is of its type
value-typed : (r : ℕ) (c : OneColumn) → r < length c.values → IsTrue (list_all (has_type c.kind) c.values) → IsTrue (has_type c.kind (value_in r c))
value-typed r c lt h = all-at (has_type c.kind) c.values r (value_in r c) h (slice_get-get_or c.values r (value.Int (pos 0)) lt)

-- a row has a value of the right type in each column
row-typed : (rows filled r : ℕ) (columns : List OneColumn) → HaveRows rows filled columns → r < rows → IsTrue (has_types (map (λ (c : OneColumn). c.kind) columns) (row_in columns r))
row-typed rows filled r [] h lt = refl
row-typed rows zero r (c ∷ columns) h lt = and_from _ _ (value-typed r c (omega (arith, h.0.enough)) h.0.typed) (row-typed rows zero r columns h.1 lt)
row-typed rows (suc filled) r (c ∷ columns) h lt = and_from _ _ (value-typed r c (omega (arith, h.0.enough)) h.0.typed) (row-typed rows filled r columns h.1 lt)

pub rows-typed : (columns : List OneColumn) (rows filled : ℕ) (table : OpenTable) → IsOpenTable columns rows filled → open_table_of columns rows filled ≡ table
    → IsTrue (list_all (has_types table.kinds) table.rows)
rows-typed columns rows filled table h same =
    rw (← same)
    (all-from (has_types (map (λ (c : OneColumn). c.kind) columns)) (row_in columns) (range_with_len 0 rows)
    (λ i d lt.
    let short : i < rows = omega (arith, length-range_with_len 0 rows) in
    let here : get_or (range_with_len 0 rows) i d ≡ i = get_or-range_with_len 0 rows i d short ∙ omega arith in
    rw here (row-typed rows filled i columns h.have short)))

-- a table without rows
have-none : (kinds : List ColumnType) → HaveRows 0 0 (map (λ k. record { kind = k; values = [] }) kinds)
have-none [] = refl
have-none (k ∷ kinds) = (record { enough = omega arith; typed = refl }, have-none kinds)

kinds-none : (kinds : List ColumnType) → map (λ (c : OneColumn). c.kind) (map (λ k. record { kind = k; values = [] }) kinds) ≡ kinds
kinds-none [] = refl
kinds-none (k ∷ kinds) = ap (λ ks. k ∷ ks) (kinds-none kinds)

pub shows-new : (columns : List OneColumn) (kinds : List ColumnType) (i : ℕ) → columns ≡ map (λ k. record { kind = k; values = [] }) (take i kinds) → length kinds ≤ i → length kinds ≤ 4294967294
    → Shows columns 0 0 (record { kinds = kinds; rows = []; started = [] })
shows-new columns kinds i is all few =
    let none : columns ≡ map (λ k. record { kind = k; values = [] }) kinds = is ∙ ap (map (λ k. record { kind = k; values = [] })) (take_all i kinds all) in
    record {
      are = record {
        have = rw none (have-none kinds);
        few_rows = omega arith;
        few_columns = rw none (rw length-map few);
      };
      shows = rw (none, kinds-none kinds) refl;
    }

-- the value in a row and a column
pub cell-at : (columns : List OneColumn) (rows filled row i : ℕ) (table : OpenTable) (o : OneColumn) (v : Value) → IsOpenTable columns rows filled → open_table_of columns rows filled ≡ table
    → row < length table.rows → i < length table.kinds → o ≡ get_or columns i o → slice_get o.values row ≡ Some v
    → value_there (record { kinds = table.kinds; rows = table.rows }) row i ≡ Some v
cell-at columns rows filled row i table o v h same rlt ilt is here =
    let short : row < rows = omega (arith, rows-count columns rows filled table same) in
    let within : i < length columns = omega (arith, ap (λ (b : OpenTable). length b.kinds) same, length-map columns (λ (c : OneColumn). c.kind)) in
    let the_row : slice_get (map (row_in columns) (range_with_len 0 rows)) row ≡ Some (row_in columns row) =
    slice_get-get_or (map (row_in columns) (range_with_len 0 rows)) row [] (omega (arith, length-map-range_with_len (row_in columns) 0 rows))
    ∙ ap Some (get_or-map-range_with_len (row_in columns) 0 rows row row [] short (omega arith)) in
    let the_value : slice_get (row_in columns row) i ≡ Some v =
    slice_get-get_or (row_in columns row) i v (omega (arith, length-map columns (value_in row)))
    ∙ ap Some (get_or-map (value_in row) columns i o v within ∙ ap (value_in row) (sym is) ∙ get_or_from_slice_get o.values row v (value.Int (pos 0)) here) in
    rw (← same) (rw the_row the_value)

-- a cell's column has the row
pub cell-within : (columns : List OneColumn) (rows filled row i : ℕ) (table : OpenTable) (o : OneColumn) → IsOpenTable columns rows filled → open_table_of columns rows filled ≡ table
    → row < length table.rows → i < length table.kinds → o ≡ get_or columns i o → row < length o.values
cell-within columns rows filled row i table o h same rlt ilt is =
    let within : i < length columns = omega (arith, ap (λ (b : OpenTable). length b.kinds) same, length-map columns (λ (c : OneColumn). c.kind)) in
    let has : HasValues rows o = rw is (have-at rows filled columns i o h.have within) in
    omega (arith, has.enough, rows-count columns rows filled table same)

-- ---- a whole row is put

types-at : (kinds : List ColumnType) (row : List Value) (i : ℕ) (d : Value) → IsTrue (has_types kinds row) → i < length row
    → IsSomeAnd (slice_get kinds i) (λ k. IsTrue (has_type k (get_or row i d)))
types-at [] [] i d h lt = absurd (omega arith)
types-at [] (v ∷ row) i d h lt = absurd (false≢true h)
types-at (k ∷ kinds) [] i d h lt = absurd (omega arith)
types-at (k ∷ kinds) (v ∷ row) zero d h lt = (and_parts (has_type k v) (has_types kinds row) h).0
types-at (k ∷ kinds) (v ∷ row) (suc i) d h lt = types-at kinds row i d (and_parts (has_type k v) (has_types kinds row) h).1 (omega arith)

-- the next value is of the next column's type
pub next-typed : (table : OpenTable) (kinds : List ColumnType) (rows : List (List Value)) (row : List Value) (i : ℕ) (v : Value) → table ≡ record { kinds = kinds; rows = rows; started = take i row }
    → IsTrue (has_types kinds row) → i < length row → v ≡ get_or row i v → IsSomeAnd (slice_get table.kinds (length table.started)) (λ k. IsTrue (has_type k v))
next-typed table kinds rows row i v is typed lt here =
    let long : length (take i row) ≡ i = length-take-le i row (omega arith) in
    rw (is, long, here) (types-at kinds row i v typed lt)

-- after the last value the row is full
pub row-full : (table : OpenTable) (kinds : List ColumnType) (rows : List (List Value)) (row : List Value) (i : ℕ) → table ≡ record { kinds = kinds; rows = rows; started = take i row }
    → IsTrue (has_types kinds row) → length row ≤ i → length table.started ≡ length table.kinds
row-full table kinds rows row i is typed all = rw (is, take_all i row all) (types-length kinds row typed)
