-- A query made of its parts.
use Rattle.std.proofs.Common.{◌≡◌, ◌∙◌, ℕ, ◌≤◌, List, length, map, refl, sym, ap, subst}
use Rattle.std.specs.Prelude.{None}
use Rattle.std.specs.List.{flat_map, range_with_len}
use Rattle.rpt_base.specs.declared.limits.TheConstants.{MAX_RELATIONS}
use Rattle.column_table.specs.declared.declared.Decl.{Decl}
use Rattle.predicate.specs.declared.tree.Pred.{Pred}
use Rattle.sql_grammar.specs.declared.tree.Script.{Script}
use Rattle.sql_grammar.specs.declared.tree.Cond.{Cond}
use Rattle.column_classes.specs.declared.columns.Equality.{Equality}
use Rattle.bound_query.specs.declared.output.OutColumn.{OutColumn}
use Rattle.binder.specs.Binding.{condition_of, conditions_of, equality_of, output_of, query_of, table_number, tables_of}
use Rattle.script_rules.specs.Conjuncts.{conjuncts_of}
use Rattle.script_rules.specs.Scope.{Relation, name_of, scope_of}
use Rattle.script_rules.specs.Violations.{refusal_of}
use Rattle.column_classes.specs.Variables.{AreEqualities, AreQueryVariables, AreWidths, QueryVariables}
use Rattle.bound_query.specs.Query.{AreNarrow, IsBound, IsBoundQuery, Query, widths_in, widths_of}
use Rattle.binder.proofs.BoundFacts.{query_of-few_columns, query_of-few_tables, query_of-IsBound}
use Rattle.script_rules.proofs.ScopeFacts.{scope-length}
use Rattle.binder.proofs.ClearFacts.{clear-within}
use Rattle.bound_query.proofs.WidthFacts.{equalities-are, widths-are}

-- a query uses few tables
pub tables-few : (script : Script) (tables : List Decl) → refusal_of script ≡ None → tables ≡ tables_of script → length tables ≤ MAX_RELATIONS
unfolding query_of
tables-few script tables none e = subst (λ (t : List Decl). length t ≤ MAX_RELATIONS) (sym e) (query_of-few_tables script (clear-within script none))

-- the tables of a query have few columns
pub tables-narrow : (script : Script) (tables : List Decl) → refusal_of script ≡ None → tables ≡ tables_of script → AreNarrow tables
unfolding query_of
tables-narrow script tables none e = subst (λ (t : List Decl). AreNarrow t) (sym e) (query_of-few_columns script (clear-within script none))

-- a query whose parts are those that were made of a script, with the tables that the relations' numbers were found in
pub record AreParts (script : Script) (scope : List Relation) (conjuncts : List Cond) (q : Query) (used : List Decl) : Type 0 where
  pub scope_is : scope ≡ scope_of script
  pub conjuncts_are : conjuncts ≡ conjuncts_of script
  pub aliases : q.aliases ≡ map name_of script.select.sources
  pub tables : q.tables ≡ tables_of script
  pub found_in : used ≡ q.tables
  pub table_of : q.table_of ≡ map (table_number used) script.select.sources
  pub conditions : q.conditions ≡ conditions_of scope conjuncts
  pub equalities : q.equalities ≡ flat_map (equality_of scope) conjuncts
  pub output : q.output ≡ output_of scope script.select.items

made-query : (script : Script) (aliases : List (List ℕ)) (tables : List Decl) (table_of : List ℕ) (conditions : List Pred) (equalities : List Equality) (output : List OutColumn)
    → aliases ≡ map name_of script.select.sources → tables ≡ tables_of script → table_of ≡ map (table_number (tables_of script)) script.select.sources
    → conditions ≡ map (condition_of (scope_of script) (conjuncts_of script)) (range_with_len 0 (length script.select.sources))
    → equalities ≡ flat_map (equality_of (scope_of script)) (conjuncts_of script) → output ≡ output_of (scope_of script) script.select.items
    → record { aliases = aliases; tables = tables; table_of = table_of; conditions = conditions; equalities = equalities; output = output } ≡ query_of script
unfolding query_of
made-query script aliases tables table_of conditions equalities output a t n c e o = rw (a, t, n, c, e, o) refl

-- it is the script's query
pub parts-query : (script : Script) (scope : List Relation) (conjuncts : List Cond) (q : Query) (used : List Decl) → AreParts script scope conjuncts q used → q ≡ query_of script
parts-query script scope conjuncts q used are =
    let conditions : ℕ → List Pred = λ count. map (condition_of (scope_of script) (conjuncts_of script)) (range_with_len 0 count) in
    made-query script q.aliases q.tables q.table_of q.conditions q.equalities q.output are.aliases are.tables
    (are.table_of ∙ ap (λ (d : List Decl). map (table_number d) script.select.sources) (are.found_in ∙ are.tables))
    (are.conditions ∙ ap (conditions_of scope) are.conjuncts_are ∙ ap (λ scope. conditions_of scope (conjuncts_of script)) are.scope_is ∙ ap conditions (sym (scope-length script (scope_of script) refl)))
    (are.equalities ∙ ap (flat_map (equality_of scope)) are.conjuncts_are ∙ ap (λ scope. flat_map (equality_of scope) (conjuncts_of script)) are.scope_is)
    (are.output ∙ ap (λ scope. output_of scope script.select.items) are.scope_is)

-- it is bound
pub parts-bound : (script : Script) (scope : List Relation) (conjuncts : List Cond) (q : Query) (used : List Decl) → 1 ≤ length script.select.sources → refusal_of script ≡ None
    → AreParts script scope conjuncts q used → IsBound q
parts-bound script scope conjuncts q used some none are = subst (λ (q : Query). IsBound q) (sym (parts-query script scope conjuncts q used are)) (query_of-IsBound script some none)

-- its variables are asked for over its tables and equalities, and make a bound query of it
module _ (q : Query) (tables : List Decl) (table_of : List ℕ) (equalities : List Equality) (bound : IsBound q) (t : tables ≡ q.tables) (n : table_of ≡ q.table_of) (e : equalities ≡ q.equalities) where
  same-widths : widths_in tables table_of ≡ widths_of q
  same-widths = ap (λ (d : List Decl). widths_in d table_of) t ∙ ap (widths_in q.tables) n

  pub parts-widths : AreWidths (widths_in tables table_of)
  parts-widths = subst (λ (ws : List ℕ). AreWidths ws) (sym same-widths) (widths-are q bound)

  pub parts-equalities : AreEqualities (widths_in tables table_of) equalities
  parts-equalities =
      subst (λ (ws : List ℕ). AreEqualities ws equalities) (sym same-widths)
      (subst (λ (es : List Equality). AreEqualities (widths_of q) es) (sym e) (equalities-are q bound))

  pub parts-known : (known : QueryVariables) → AreQueryVariables (widths_in tables table_of) equalities known → IsBoundQuery (record { query = q; known = known })
  parts-known known are = record {
    query = bound;
    known =
        subst (λ (ws : List ℕ). AreQueryVariables ws q.equalities known) same-widths
        (subst (λ (es : List Equality). AreQueryVariables (widths_in tables table_of) es known) e are);
  }
