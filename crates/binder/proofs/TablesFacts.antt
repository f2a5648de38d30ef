-- The tables of a bound query are those of its sources.
use Rattle.std.proofs.Common.{◌≡◌, ◌∙◌, ◌≤◌, ◌+◌, ℕ, suc, Bool, true, false, cond, not, ◌||◌, List, [], ◌∷◌, ◌++◌, length, map, refl, ap, sym, subst, arith, length-append}
use Rattle.std.specs.Prelude.{All, Some, slice_get}
use Rattle.std.specs.List.{list_any, position_or_len}
use Rattle.std.specs.Option.{option_map_or}
use Rattle.std.specs.Str.{bytes_eq}
use Rattle.std.proofs.lemmas.List.Elements.{All-append, All-cons, All-nil}
use Rattle.std.proofs.lemmas.Option.{get_or_from_slice_get, slice_get_within}
use Rattle.std.proofs.lemmas.Slice.Eq.{bytes_eq-Decides}
use Rattle.std.proofs.lemmas.Bool.{or_right}
use Rattle.column_table.specs.declared.declared.Decl.{Decl}
use Rattle.sql_grammar.specs.declared.tree.CreateTable.{CreateTable}
use Rattle.sql_grammar.specs.declared.tree.ColumnItem.{ColumnItem}
use Rattle.sql_grammar.specs.declared.tree.Source.{Source}
use Rattle.script_rules.specs.Scope.{columns_of, table_named}
use Rattle.column_table.specs.Table.{types_of}
use Rattle.binder.specs.Binding.{decl_of, declaration, is_declared, table_number, tables_behind, with_table}

or-more : (b c d : Bool) → (c ≡ true → d ≡ true) → (b || c) ≡ true → (b || d) ≡ true
or-more true c d f h = refl
or-more false c d f h = f h

pub any-append : {X : Type 0} (p : X → Bool) (xs ys : List X) → list_any p xs ≡ true → list_any p (xs ++ ys) ≡ true
any-append p [] ys h = cc
any-append p (x ∷ xs) ys h = or-more (p x) _ _ (any-append p xs ys) h

pub any-last : {X : Type 0} (p : X → Bool) (xs : List X) (x : X) → p x ≡ true → list_any p (xs ++ x ∷ []) ≡ true
any-last p [] x h = ap (λ b. b || false) h
any-last p (y ∷ xs) x h = or_right (p y) _ (any-last p xs x h)

-- the first place that passes
pub passing-place : {X : Type 0} (p : X → Bool) (xs : List X) → list_any p xs ≡ true
    → (x : X) × (slice_get xs (position_or_len p xs) ≡ Some x) × (p x ≡ true)
passing-place p [] h = cc
passing-place {X} p (x ∷ xs) h = at (p x) refl h (passing-place p xs)
  where
    at : (b : Bool) → p x ≡ b → (b || list_any p xs) ≡ true → (list_any p xs ≡ true → (y : X) × (slice_get xs (position_or_len p xs) ≡ Some y) × (p y ≡ true))
        → (y : X) × (slice_get (x ∷ xs) (cond (not b) (1 + position_or_len p xs) 0) ≡ Some y) × (p y ≡ true)
    at true e k rest = (x, refl, e)
    at false e k rest = let r = rest k in let next : 1 + position_or_len p xs ≡ suc (position_or_len p xs) = omega arith in (r.0, ap (slice_get (x ∷ xs)) next ∙ r.1, r.2)

bytes_eq-same : (name : List ℕ) → bytes_eq name name ≡ true
bytes_eq-same name = (bytes_eq-Decides name name).1 refl

module _ (created : List CreateTable) where
  -- the table is declared for one of the sources
  pub record IsDeclared (t : Decl) : Type 0 where
    pub source : Source
    pub same : t ≡ decl_of created source

  with-declared : (tables : List Decl) (s : Source) → All IsDeclared tables → All IsDeclared (with_table created tables s)
  with-declared tables s h = at (is_declared tables s.table)
    where
      at : (b : Bool) → All IsDeclared (cond b tables (tables ++ decl_of created s ∷ []))
      at true = h
      at false = All-append IsDeclared tables (decl_of created s ∷ []) h (All-cons IsDeclared (decl_of created s) [] (record { source = s; same = refl }) (All-nil IsDeclared))

  pub behind-declared : (tables : List Decl) (sources : List Source) → All IsDeclared tables → All IsDeclared (tables_behind created tables sources)
  unfolding tables_behind
  behind-declared tables [] h = h
  behind-declared tables (s ∷ sources) h = behind-declared (with_table created tables s) sources (with-declared tables s h)

  with-more : (tables : List Decl) (s : Source) → length (with_table created tables s) ≤ length tables + 1
  with-more tables s = at (is_declared tables s.table)
    where
      at : (b : Bool) → length (cond b tables (tables ++ decl_of created s ∷ [])) ≤ length tables + 1
      at true = omega arith
      at false = let e = length-append tables (decl_of created s ∷ []) in omega arith

  pub behind-few : (tables : List Decl) (sources : List Source) → length (tables_behind created tables sources) ≤ length tables + length sources
  unfolding tables_behind
  behind-few tables [] = omega arith
  behind-few tables (s ∷ sources) =
      let e = with-more tables s in
      let f = behind-few (with_table created tables s) sources in
      omega arith

  with-kept : (tables : List Decl) (s : Source) (name : List ℕ) → is_declared tables name ≡ true → is_declared (with_table created tables s) name ≡ true
  with-kept tables s name h = at (is_declared tables s.table)
    where
      at : (b : Bool) → is_declared (cond b tables (tables ++ decl_of created s ∷ [])) name ≡ true
      at true = h
      at false = any-append (λ (t : Decl). bytes_eq t.name name) tables (decl_of created s ∷ []) h

  behind-kept : (tables : List Decl) (sources : List Source) (name : List ℕ) → is_declared tables name ≡ true → is_declared (tables_behind created tables sources) name ≡ true
  unfolding tables_behind
  behind-kept tables [] name h = h
  behind-kept tables (s ∷ sources) name h = behind-kept (with_table created tables s) sources name (with-kept tables s name h)

  with-own : (tables : List Decl) (s : Source) → is_declared (with_table created tables s) s.table ≡ true
  with-own tables s = at (is_declared tables s.table) refl
    where
      at : (b : Bool) → is_declared tables s.table ≡ b → is_declared (cond b tables (tables ++ decl_of created s ∷ [])) s.table ≡ true
      at true e = e
      at false e = any-last (λ (t : Decl). bytes_eq t.name s.table) tables (decl_of created s) (bytes_eq-same s.table)

  -- each source's table is there
  pub behind-own : (tables : List Decl) (sources : List Source) → All (λ (s : Source). is_declared (tables_behind created tables sources) s.table ≡ true) sources
  unfolding tables_behind
  behind-own tables [] = All-nil (λ (s : Source). is_declared (tables_behind created tables []) s.table ≡ true)
  behind-own tables (s ∷ sources) =
      All-cons (λ (x : Source). is_declared (tables_behind created (with_table created tables s) sources) x.table ≡ true) s sources
      (behind-kept (with_table created tables s) sources s.table (with-own tables s)) (behind-own (with_table created tables s) sources)

  types-declared : (columns : List ColumnItem) → types_of (map declaration columns) ≡ map (λ (i : ColumnItem). i.kind) columns
  types-declared [] = refl
  types-declared (i ∷ columns) = ap (λ rest. i.kind ∷ rest) (types-declared columns)

  -- a source's table is one of the tables, and has the source's columns
  pub record IsTableOf (tables : List Decl) (s : Source) : Type 0 where
    pub table : Decl
    pub there : slice_get tables (table_number tables s) ≡ Some table
    pub types : types_of table.columns ≡ map (λ (i : ColumnItem). i.kind) (columns_of created s)

  pub table-of : (tables : List Decl) (s : Source) → All IsDeclared tables → is_declared tables s.table ≡ true → IsTableOf tables s
  table-of tables s all h =
      let place = passing-place (λ (t : Decl). bytes_eq t.name s.table) tables h in
      let t = place.0 in
      let declared : IsDeclared t = subst IsDeclared (get_or_from_slice_get tables _ t t place.1) (all _ t (slice_get_within tables _ t place.1)) in
      let name : declared.source.table ≡ s.table = sym (ap (λ (d : Decl). d.name) declared.same) ∙ (bytes_eq-Decides t.name s.table).0 place.2 in
      record {
        table = t;
        there = place.1;
        types =
            ap (λ (d : Decl). types_of d.columns) declared.same ∙ types-declared (columns_of created declared.source)
            ∙ ap (λ n. map (λ (i : ColumnItem). i.kind) (option_map_or (λ (t : CreateTable). t.columns) (table_named created n) [])) name;
      }
