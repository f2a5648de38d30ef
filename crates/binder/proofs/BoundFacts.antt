-- What a script without refusals is bound to is a bound query.
use Rattle.std.proofs.Common.{◌≡◌, ◌∙◌, ◌<◌, ◌≤◌, ℕ, true, false, cond, List, [], ◌∷◌, length, map, ap, sym, subst, arith}
use Rattle.std.specs.Prelude.{All, IsTrue, None, Some, slice_get, slice_index, slice_index_or}
use Rattle.std.specs.List.{enumerate_from, flat_map, range_with_len}
use Rattle.std.specs.Option.{option_map, option_map_or, option_to_list}
use Rattle.std.proofs.lemmas.List.{length-map}
use Rattle.std.proofs.lemmas.List.Elements.{All-cons, All-map, All-nil}
use Rattle.std.proofs.lemmas.List.FromFn.{get_or-map-range_with_len, length-map-range_with_len}
use Rattle.std.proofs.lemmas.Option.{get_or_from_slice_get, slice_get-map, slice_get_within}
use Rattle.rpt_base.specs.declared.values.ColumnType.{ColumnType}
use Rattle.column_table.specs.declared.declared.Decl.{Decl}
use Rattle.predicate.specs.declared.tree.Pred.{Pred}
use Rattle.predicate.specs.Truth.{is_typed}
use Rattle.sql_grammar.specs.declared.tree.Script.{Script}
use Rattle.sql_grammar.specs.declared.tree.ColumnItem.{ColumnItem}
use Rattle.sql_grammar.specs.declared.tree.Cond.{Cond}
use Rattle.sql_grammar.specs.declared.tree.Item.{Item}
use Rattle.sql_grammar.specs.declared.tree.Items.{Items}
use Rattle.sql_grammar.specs.declared.tree.Items.TheVariants as items
use Rattle.sql_grammar.specs.declared.tree.Source.{Source}
use Rattle.column_classes.specs.declared.columns.ColumnRef.{ColumnRef}
use Rattle.bound_query.specs.declared.output.OutColumn.{OutColumn}
use Rattle.script_rules.specs.Scope.{IsWithinLimits, Relation, columns_of, resolve, name_of, relation_of, scope_of}
use Rattle.script_rules.specs.Conjuncts.{columns_in, conjuncts_of, found, is_equality}
use Rattle.script_rules.specs.Violations.{conjunct_violations, refusal_of}
use Rattle.bound_query.specs.Query.{IsBound, IsEqualityOf, IsColumnOf, Query, kinds_of}
use Rattle.column_table.specs.Table.{types_of}
use Rattle.binder.specs.Binding.{condition_of, equality_between, equality_of, item_output, output_of, declaration, is_declared, query_of, relation_output, table_number, tables_of}
use Rattle.script_rules.proofs.ScopeFacts.{columns_within}
use Rattle.binder.proofs.ClearFacts.{clear-within, refusal_of-none}
use Rattle.rpt_base.proofs.ListFacts.{all-flat_map}
use Rattle.binder.proofs.RangeFacts.{IsColumn, all-places, column-kinds, columns_in-columns, columns_under, resolve-column, scope_kinds, slice_get-there}
use Rattle.binder.proofs.TypedFacts.{condition_of-typed}
use Rattle.binder.proofs.TablesFacts.{IsDeclared, IsTableOf, behind-declared, behind-few, behind-own, table-of}

module _ (script : Script) where
  abbrev sources : List Source
  sources = script.select.sources

  abbrev scope : List Relation
  scope = scope_of script

  abbrev tables : List Decl
  tables = tables_of script

  abbrev q : Query
  q = query_of script

  declared : All (IsDeclared script.tables) tables
  declared = behind-declared script.tables [] sources (All-nil (IsDeclared script.tables))

  -- the table of a source
  source-table : (r : ℕ) (s : Source) → slice_get sources r ≡ Some s → IsTableOf script.tables tables s
  source-table r s e =
      let own = behind-own script.tables [] sources r s (slice_get_within sources r s e) in
      table-of script.tables tables s declared
      (subst (λ (x : Source). is_declared tables x.table ≡ true) (get_or_from_slice_get sources r s s e) own)

  number-of : (r : ℕ) (s : Source) → slice_get sources r ≡ Some s → slice_index (map (table_number tables) sources) r ≡ table_number tables s
  number-of r s e =
      get_or_from_slice_get (map (table_number tables) sources) r (table_number tables s) 0
      (slice_get-map (table_number tables) sources r ∙ ap (option_map (table_number tables)) e)

  scope-kinds : (r : ℕ) (s : Source) → slice_get sources r ≡ Some s → scope_kinds scope r ≡ map (λ (i : ColumnItem). i.kind) (columns_of script.tables s)
  unfolding scope_of
  scope-kinds r s e =
      ap (λ o. map (λ (i : ColumnItem). i.kind) (columns_under o))
      (slice_get-map (relation_of script.tables) sources r ∙ ap (option_map (relation_of script.tables)) e)

  -- a relation's table has the columns of its source
  pub kinds_of-source : (r : ℕ) → r < length sources → kinds_of q r ≡ scope_kinds scope r
  unfolding query_of
  kinds_of-source r lt =
      let s = slice_get-there sources r lt in
      let t = source-table r s.0 s.1 in
      let none : Decl = record { name = []; columns = [] } in
      ap (λ n. types_of (slice_index_or tables n none).columns) (number-of r s.0 s.1)
      ∙ ap (λ (d : Decl). types_of d.columns) (get_or_from_slice_get tables (table_number tables s.0) t.table none t.there)
      ∙ t.types ∙ sym (scope-kinds r s.0 s.1)

  pub table_of-length : length q.table_of ≡ length sources
  unfolding query_of
  table_of-length = length-map sources (table_number tables)

  pub query_of-within : (r : ℕ) → r < length q.table_of → slice_index q.table_of r < length q.tables
  unfolding query_of
  query_of-within r lt =
      let e = table_of-length in
      let s = slice_get-there sources r (omega arith) in
      let t = source-table r s.0 s.1 in
      subst (λ n. n < length tables) (sym (number-of r s.0 s.1)) (slice_get_within tables (table_number tables s.0) t.table t.there)

  scope-length : length scope ≡ length sources
  unfolding scope_of
  scope-length = length-map sources (relation_of script.tables)

  -- a column of the scope is a column of the query
  pub column-names : (k : ColumnRef) → IsColumn scope k → IsColumnOf q k
  column-names k h =
      let lt = slice_get_within scope k.relation h.at h.relation in
      let e = scope-length in
      let f = table_of-length in
      record {
        relation = omega arith;
        column = subst (λ (kinds : List ColumnType). k.column < length kinds) (sym (kinds_of-source k.relation (omega arith))) (column-kinds scope k h);
      }

  between-joins : (columns : List ColumnRef) → All (IsColumn scope) columns → All (IsEqualityOf q) (equality_between columns)
  between-joins [] h = All-nil (IsEqualityOf q)
  between-joins (a ∷ []) h = All-nil (IsEqualityOf q)
  between-joins (a ∷ b ∷ []) h =
      All-cons (IsEqualityOf q) (record { left = a; right = b }) [] (record { left = column-names a (h 0 a (omega arith)); right = column-names b (h 1 a (omega arith)) }) (All-nil (IsEqualityOf q))
  between-joins (a ∷ b ∷ d ∷ more) h = All-nil (IsEqualityOf q)

  equality-joins : (x : Cond) → All (IsEqualityOf q) (equality_of scope x)
  unfolding equality_of
  equality-joins x =
      elim (is_equality x) as (λ b. All (IsEqualityOf q) (cond b (equality_between (columns_in scope x)) [])) [
        | true ↦ between-joins (columns_in scope x) (columns_in-columns scope x)
        | false ↦ All-nil (IsEqualityOf q)
      ]

  pub query_of-joined : All (IsEqualityOf q) q.equalities
  unfolding query_of
  query_of-joined = all-flat_map (IsEqualityOf q) (equality_of scope) (conjuncts_of script) (λ k d lt. equality-joins _)

  abbrev IsShown : OutColumn → Type 0
  IsShown o = IsColumnOf q o.source

  relation-shown : (p : ℕ × Relation) → slice_get scope p.0 ≡ Some p.1 → All IsShown (relation_output p)
  relation-shown p e =
      All-map IsShown (λ (i : ℕ × ColumnItem). record { source = record { relation = p.0; column = i.0 }; title = i.1.name }) (enumerate_from 0 p.1.columns)
      (λ k d lt. column-names _ (record { at = p.1; relation = e; column = slice_get_within p.1.columns _ _ (all-places p.1.columns k d lt) }))

  item-shown : (i : Item) → All IsShown (item_output scope i)
  unfolding item_output
  item-shown i =
      All-map IsShown (λ (k : ColumnRef). record { source = k; title = option_map_or (λ t. t) i.title i.column.column }) (option_to_list (found (resolve scope i.column)))
      (λ k d lt. column-names _ (resolve-column scope i.column k d lt))

  output-shown : (selected : Items) → All IsShown (output_of scope selected)
  output-shown items.Star = all-flat_map IsShown relation_output (enumerate_from 0 scope) (λ k d lt. relation-shown _ (all-places scope k d lt))
  output-shown (items.List list) = all-flat_map IsShown (item_output scope) list (λ k d lt. item-shown _)

  pub query_of-shown : All IsShown q.output
  unfolding query_of
  query_of-shown = output-shown script.select.items

  pub query_of-same : length q.conditions ≡ length q.table_of
  unfolding query_of
  query_of-same = length-map-range_with_len (condition_of scope (conjuncts_of script)) 0 (length sources) ∙ sym (length-map sources (table_number tables))

  pub query_of-named : length q.aliases ≡ length q.table_of
  unfolding query_of
  query_of-named = length-map sources name_of ∙ sym (length-map sources (table_number tables))

  pub query_of-typed : flat_map (conjunct_violations scope) (conjuncts_of script) ≡ [] → (r : ℕ) (p : Pred) → slice_get q.conditions r ≡ Some p → IsTrue (is_typed (kinds_of q r) p)
  unfolding query_of
  query_of-typed clear r p e =
      let f = condition_of scope (conjuncts_of script) in
      let there = slice_get_within (map f (range_with_len 0 (length sources))) r p e in
      let long = length-map-range_with_len f 0 (length sources) in
      let lt : r < length sources = omega arith in
      let is : f r ≡ p = sym (get_or-map-range_with_len f 0 (length sources) r r p lt (omega arith)) ∙ get_or_from_slice_get (map f (range_with_len 0 (length sources))) r p p e in
      ap (λ (kinds : List ColumnType). is_typed kinds p) (kinds_of-source r lt) ∙ ap (is_typed (scope_kinds scope r)) (sym is) ∙ condition_of-typed scope r (conjuncts_of script) clear

  pub query_of-few : IsWithinLimits script → length q.table_of ≤ 16
  query_of-few limits = let e = table_of-length in let f = limits.relations in omega arith

  pub query_of-few_tables : IsWithinLimits script → length q.tables ≤ 16
  unfolding query_of
  query_of-few_tables limits = let e = behind-few script.tables [] sources in let f = limits.relations in omega arith

  declared-few : IsWithinLimits script → (d : Decl) → IsDeclared script.tables d → length d.columns ≤ 64
  declared-few limits d is =
      let e = columns_within script is.source limits in
      let f = length-map (columns_of script.tables is.source) declaration in
      let g : length d.columns ≡ length (map declaration (columns_of script.tables is.source)) = ap (λ (d : Decl). length d.columns) is.same in
      omega arith

  pub query_of-few_columns : IsWithinLimits script → All (λ (d : Decl). length d.columns ≤ 64) q.tables
  unfolding query_of
  query_of-few_columns limits = λ k d lt. declared-few limits _ (declared k d lt)

-- what a script without refusals is bound to is a bound query
pub query_of-IsBound : (script : Script) → 1 ≤ length script.select.sources → refusal_of script ≡ None → IsBound (query_of script)
query_of-IsBound script some none =
    let limits = clear-within script none in
    let e = table_of-length script in
    record {
      some = omega arith;
      few = query_of-few script limits;
      few_tables = query_of-few_tables script limits;
      few_columns = query_of-few_columns script limits;
      same = query_of-same script;
      named = query_of-named script;
      within = query_of-within script;
      typed = query_of-typed script (refusal_of-none script none).conjuncts;
      joined = query_of-joined script;
      shown = query_of-shown script;
    }
