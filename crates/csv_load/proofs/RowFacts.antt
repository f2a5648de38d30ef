-- What is known of a row after some of its columns, and of the rows after some of the records.
use Rattle.std.proofs.Common.{◌≡◌, ◌∙◌, ◌<◌, ◌≤◌, ◌+◌, ℕ, Bool, true, false, List, [], ◌∷◌, ◌++◌, length, drop, get_or, refl, sym, ap, subst, arith, length-append}
use Rattle.std.specs.Prelude.{◌==◌, count_by, slice_get, if◌then◌else◌, Option, Some, None, Result, Ok, Err, nat_le}
use Rattle.std.specs.List.{position_or_len}
use Rattle.std.specs.Option.{ok_or, option_map}
use Rattle.std.proofs.lemmas.Option.{slice_get-get_or, slice_get-map}
use Rattle.std.proofs.lemmas.Bool.{eq-eqb, le-leb, lt-leb}
use Rattle.rpt_base.specs.declared.values.ColumnType.{ColumnType}
use Rattle.rpt_base.specs.declared.values.ColumnType.TheVariants as kind
use Rattle.rpt_base.specs.declared.values.Value.{Value}
use Rattle.column_table.specs.Table.{OpenTable, types_of}
use Rattle.column_table.specs.declared.declared.ColumnDecl.{ColumnDecl}
use Rattle.csv_load.specs.declared.errors.LoadError.{LoadError}
use Rattle.csv_load.specs.declared.errors.LoadError.TheVariants.{Header, Ragged, BadField, NotUtf8, TooManyRows, Memory}
use Rattle.csv_load.specs.FileTable.{cell_of, cells_of, fault_of, field_of, is_named, place_of, places_of, row_of, rows_of}
use Rattle.column_table.specs.FieldText.{field_value}
use Rattle.csv_load.specs.Loads.{PutsField, Refuses}
use Rattle.csv_load.proofs.FirstRefusals.{behind, behind-none, made, made-at, made-end, made-length, made-more, made-next, made-refused, made-stop}

-- the first n columns have their values in the started row, and nothing else is changed
pub record HasFilled (columns : List ColumnDecl) (header : List (List ℕ)) (row : ℕ) (fields : List (List ℕ)) (old new : OpenTable) (n : ℕ) : Type 0 where
  pub cells : made (cell_of row header fields) 0 columns ≡ behind new.started (made (cell_of row header fields) n (drop n columns))
  pub count : length new.started ≡ n
  pub others : new ≡ record old { started = new.started }

-- the values of a record that is as long as the header
pub cells_of-long : (columns : List ColumnDecl) (header : List (List ℕ)) (row : ℕ) (fields : List (List ℕ)) → length fields ≡ length header
    → cells_of columns header row fields ≡ made (cell_of row header fields) 0 columns
cells_of-long columns header row fields e = rw (eq-eqb (length fields) (length header) e) refl

-- a column's place is that of the first field with its name
place-here : (header : List (List ℕ)) (n place : ℕ) (c : ColumnDecl) → place_of header (n, c) ≡ Ok place → place ≡ position_or_len (is_named c.name) header
place-here header n place c e = by (count_by (is_named c.name) header == 1) e
  where
    by : (b : Bool) → ok_or (if b then Some (position_or_len (is_named c.name) header) else None) (Header n) ≡ Ok place → place ≡ position_or_len (is_named c.name) header
    by true q = cc
    by false q = cc

-- the field at a column's place is its field
field-here : (columns : List ColumnDecl) (header fields : List (List ℕ)) (places : List ℕ) (n place : ℕ) (d : ColumnDecl) (field : List ℕ)
    → places_of columns header ≡ Ok places → n < length columns → place ≡ get_or places n place → field ≡ get_or fields place [] → field_of header fields (get_or columns n d).name ≡ field
field-here columns header fields places n place d field found lt here there =
    let zero : 0 + n ≡ n = omega arith in
    let at = rw zero at (made-at (place_of header) 0 columns places n d place found lt) in
    let first = here ∙ place-here header n (get_or places n place) (get_or columns n d) at in
    rw (← first) (sym there)

-- no column has its value yet
pub filled-none : (columns : List ColumnDecl) (header : List (List ℕ)) (row : ℕ) (fields : List (List ℕ)) (old : OpenTable) → old.started ≡ [] → HasFilled columns header row fields old old 0
filled-none columns header row fields old e = record { cells = rw e (behind-none (made (cell_of row header fields) 0 columns)); count = rw e refl; others = refl }

module _ (columns : List ColumnDecl) (header : List (List ℕ)) (row : ℕ) (fields : List (List ℕ)) (places : List ℕ) (found : places_of columns header ≡ Ok places) (old new : OpenTable) (n place : ℕ) (d : ColumnDecl) (field : List ℕ)
    (filled : HasFilled columns header row fields old new n) (lt : n < length columns) (here : place ≡ get_or places n place) (there : field ≡ get_or fields place []) where
  -- the next column has its value
  pub filled-more : (next : OpenTable) → PutsField (field_value (get_or columns n d).kind field) new next true → HasFilled columns header row fields old next (n + 1)
  filled-more next puts = by (field_value (get_or columns n d).kind field) refl puts
    where
      by : (o : Option Value) → field_value (get_or columns n d).kind field ≡ o → PutsField o new next true → HasFilled columns header row fields old next (n + 1)
      by None e q = cc
      by (Some v) e q =
          let cell : cell_of row header fields (n, get_or columns n d) ≡ Ok v = rw (field-here columns header fields places n place d field found lt here there, e) refl in
          let grown : next.started ≡ new.started ++ v ∷ [] = ap (λ (f : OpenTable). f.started) q.1 in
          record {
            cells = rw grown (made-next (cell_of row header fields) (made (cell_of row header fields) 0 columns) new.started n columns d v filled.cells lt cell);
            count = rw (grown, length-append) (omega (arith, filled.count));
            others = q.1 ∙ ap (λ (f : OpenTable). record f { started = new.started ++ v ∷ [] }) filled.others ∙ ap (λ (xs : List Value). record old { started = xs }) (sym grown);
          }

  -- the next column's field is bad
  pub filled-bad : (next : OpenTable) → length fields ≡ length header → PutsField (field_value (get_or columns n d).kind field) new next false
      → cells_of columns header row fields ≡ Err (fault_of (get_or columns n d).kind row n)
  filled-bad next long puts = by (field_value (get_or columns n d).kind field) refl puts
    where
      by : (o : Option Value) → field_value (get_or columns n d).kind field ≡ o → PutsField o new next false → cells_of columns header row fields ≡ Err (fault_of (get_or columns n d).kind row n)
      by (Some v) e q = cc q.0
      by None e q =
          let cell : cell_of row header fields (n, get_or columns n d) ≡ Err (fault_of (get_or columns n d).kind row n) = rw (field-here columns header fields places n place d field found lt here there, e) refl in
          cells_of-long columns header row fields long ∙ made-refused (cell_of row header fields) (made (cell_of row header fields) 0 columns) new.started n columns d _ filled.cells lt cell

-- a refusal of a field
pub refuses-fault : {X : Type 0} (Y : Type 0) (said : Result X LoadError) (k : ColumnType) (row column : ℕ) (e : LoadError) → said ≡ Err (fault_of k row column) → e ≡ fault_of k row column → Refuses {Y = Y} said (Err e)
refuses-fault Y said kind.Int row column e is same = subst (λ (r : LoadError). Refuses {Y = Y} said (Err r)) (sym same) is
refuses-fault Y said kind.Text row column e is same = subst (λ (r : LoadError). Refuses {Y = Y} said (Err r)) (sym same) is

-- the type of the next column
pub filled-kind : (columns : List ColumnDecl) (header : List (List ℕ)) (row : ℕ) (fields : List (List ℕ)) (old new : OpenTable) (n : ℕ) (d : ColumnDecl) → HasFilled columns header row fields old new n
    → old.kinds ≡ types_of columns → n < length columns → slice_get new.kinds (length new.started) ≡ Some (get_or columns n d).kind
filled-kind columns header row fields old new n d filled kinds lt =
    let same : new.kinds ≡ types_of columns = ap (λ (f : OpenTable). f.kinds) filled.others ∙ kinds in
    rw (filled.count, same) (slice_get-map (λ (c : ColumnDecl). c.kind) columns n ∙ ap (option_map (λ (c : ColumnDecl). c.kind)) (slice_get-get_or columns n d lt))

-- of the records the first n have the rows, and these are left; no row is started
pub record HasRows (limit : ℕ) (columns : List ColumnDecl) (header : List (List ℕ)) (all left : List (List (List ℕ))) (table : OpenTable) (n : ℕ) : Type 0 where
  pub rows : rows_of limit columns header all ≡ behind table.rows (made (row_of limit columns header) n left)
  pub count : length table.rows ≡ n
  pub kinds : table.kinds ≡ types_of columns
  pub started : table.started ≡ []

module _ (limit : ℕ) (columns : List ColumnDecl) (header : List (List ℕ)) (all left : List (List (List ℕ))) (table : OpenTable) (n : ℕ) (has : HasRows limit columns header all left table n) where
  -- no record is left
  pub rows-end : left ≡ [] → rows_of limit columns header all ≡ Ok table.rows
  rows-end e = made-end (row_of limit columns header) (rows_of limit columns header all) table.rows n left has.rows e

  -- a record before the limit is read as its cells
  row-here : (fields : List (List ℕ)) → n < limit → row_of limit columns header (n, fields) ≡ cells_of columns header n fields
  row-here fields lt = let before : nat_le limit n ≡ false = lt-leb limit n lt in rw before refl

  -- the next record has a row, which was put at the end
  pub rows-more : (fields : List (List ℕ)) (rest : List (List (List ℕ))) (filled next : OpenTable) → left ≡ fields ∷ rest → n < limit → cells_of columns header n fields ≡ Ok filled.started
      → filled ≡ record table { started = filled.started } → next ≡ record { kinds = filled.kinds; rows = filled.rows ++ filled.started ∷ []; started = [] } → HasRows limit columns header all rest next (n + 1)
  rows-more fields rest filled next e lt cells same put =
      let rows : next.rows ≡ table.rows ++ filled.started ∷ [] = ap (λ (f : OpenTable). f.rows) put ∙ ap (λ (r : List (List Value)). r ++ filled.started ∷ []) (ap (λ (f : OpenTable). f.rows) same) in
      record {
        rows = rw rows (made-more (row_of limit columns header) (rows_of limit columns header all) table.rows n left rest fields filled.started has.rows e (row-here fields lt ∙ cells));
        count = rw (rows, length-append) (omega (arith, has.count));
        kinds = ap (λ (f : OpenTable). f.kinds) put ∙ ap (λ (f : OpenTable). f.kinds) same ∙ has.kinds;
        started = ap (λ (f : OpenTable). f.started) put;
      }

  -- the next record is bad
  pub rows-bad : (Y : Type 0) (fields : List (List ℕ)) (rest : List (List (List ℕ))) (e : LoadError) → left ≡ fields ∷ rest → n < limit
      → Refuses {X = List Value} {Y = Y} (cells_of columns header n fields) (Err e) → Refuses {X = List (List Value)} {Y = Y} (rows_of limit columns header all) (Err e)
  rows-bad Y fields rest refusal e lt refused = by refusal refused
    where
      stop : (r : LoadError) → cells_of columns header n fields ≡ Err r → rows_of limit columns header all ≡ Err r
      stop r bad = made-stop (row_of limit columns header) (rows_of limit columns header all) table.rows n left rest fields r has.rows e (row-here fields lt ∙ bad)

      by : (r : LoadError) → Refuses {X = List Value} {Y = Y} (cells_of columns header n fields) (Err r) → Refuses {X = List (List Value)} {Y = Y} (rows_of limit columns header all) (Err r)
      by (Header column) h = stop (Header column) h
      by (Ragged row) h = stop (Ragged row) h
      by (BadField row column) h = stop (BadField row column) h
      by (NotUtf8 row column) h = stop (NotUtf8 row column) h
      by TooManyRows h = stop TooManyRows h
      by Memory h = tt

  -- there is a record at the limit
  pub rows-many : (fields : List (List ℕ)) (rest : List (List (List ℕ))) → left ≡ fields ∷ rest → limit ≤ n → rows_of limit columns header all ≡ Err TooManyRows
  rows-many fields rest e full =
      let past : nat_le limit n ≡ true = le-leb limit n full in
      made-stop (row_of limit columns header) (rows_of limit columns header all) table.rows n left rest fields TooManyRows has.rows e (rw past refl)

-- a row has a value for each column
pub cells_of-length : (columns : List ColumnDecl) (header : List (List ℕ)) (row : ℕ) (fields : List (List ℕ)) (values : List Value) → cells_of columns header row fields ≡ Ok values → length values ≡ length columns
cells_of-length columns header row fields values e = by (length fields == length header) e
  where
    by : (b : Bool) → ◌≡◌ {A = Result (List Value) LoadError} (if b then made (cell_of row header fields) 0 columns else Err (Ragged row)) (Ok values) → length values ≡ length columns
    by true q = made-length (cell_of row header fields) 0 columns values q
    by false q = cc

-- no record was read
pub rows-none : (limit : ℕ) (columns : List ColumnDecl) (header : List (List ℕ)) (all : List (List (List ℕ))) (table : OpenTable) → table ≡ record { kinds = types_of columns; rows = []; started = [] } → HasRows limit columns header all all table 0
rows-none limit columns header all table e = rw e (record { rows = behind-none (rows_of limit columns header all); count = refl; kinds = refl; started = refl })
