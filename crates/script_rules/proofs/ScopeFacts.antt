-- What a reference resolves to, relation by relation.
use Rattle.std.proofs.Common.{◌≡◌, ◌∙◌, ◌<◌, ◌≤◌, ◌+◌, ℕ, suc, true, false, cond, List, [], ◌∷◌, ◌++◌, length, drop, get_or, refl, ap, sym, arith, add-one, drop-cons}
use Rattle.std.specs.Prelude.{Option, None, Some, Ok, Err, All}
use Rattle.std.specs.List.{enumerate_from, flat_map}
use Rattle.std.specs.Option.{is_some, option_to_list, option_map_or}
use Rattle.std.specs.Str.{bytes_eq}
use Rattle.std.proofs.lemmas.List.{get_or-map, length-map}
use Rattle.std.proofs.lemmas.Option.{slice_get-get_or, slice_get_past}
use Rattle.std.proofs.Math.ListN.{drop_of_length-le}
use Rattle.rpt_base.specs.declared.limits.TheConstants.{MAX_COLUMNS, MAX_RELATIONS}
use Rattle.sql_grammar.specs.declared.tree.Script.{Script}
use Rattle.sql_grammar.specs.declared.tree.CreateTable.{CreateTable}
use Rattle.sql_grammar.specs.declared.tree.ColumnName.{ColumnName}
use Rattle.sql_grammar.specs.declared.tree.Source.{Source}
use Rattle.column_classes.specs.declared.columns.ColumnRef.{ColumnRef}
use Rattle.script_rules.specs.declared.kinds.BindKind.TheVariants.{UnknownColumn, Ambiguous}
use Rattle.script_rules.specs.Scope.{IsWithinLimits, Relation, candidates, columns_of, kind_at, kind_under, only_candidate, relation_at, relation_of, resolve, resolve_in, scope_of, table_named, type_at}

-- a table that is found has no more columns than a table may have
found_within : (tables : List CreateTable) (name : List ℕ) → All (λ (t : CreateTable). length t.columns ≤ MAX_COLUMNS) tables
    → length (option_map_or (λ (t : CreateTable). t.columns) (table_named tables name) []) ≤ MAX_COLUMNS
found_within [] name h = omega arith
found_within (t ∷ tables) name h =
    elim (bytes_eq t.name name) as (λ b. length (option_map_or (λ (t : CreateTable). t.columns) (cond b (Some t) (table_named tables name)) []) ≤ MAX_COLUMNS) [
      | true ↦ h 0 t (omega arith)
      | false ↦ found_within tables name (λ k d lt. h (suc k) d (omega arith))
    ]

pub columns_within : (script : Script) (s : Source) → IsWithinLimits script → length (columns_of script.tables s) ≤ MAX_COLUMNS
columns_within script s limits = found_within script.tables s.table limits.columns

-- the relations of a script's scope are its sources
module _ (script : Script) (scope : List Relation) (is : scope_of script ≡ scope) where
  pub scope-length : length script.select.sources ≡ length scope
  unfolding scope_of
  scope-length = sym (length-map script.select.sources (relation_of script.tables)) ∙ ap length is

  pub scope-limit : IsWithinLimits script → length scope ≤ MAX_RELATIONS
  scope-limit limits = let same = scope-length in let few = limits.relations in omega (arith, same, few)

  pub scope-relation : (n : ℕ) (d : Source) → n < length script.select.sources → relation_of script.tables (get_or script.select.sources n d) ≡ relation_at scope n
  unfolding scope_of
  scope-relation n d h =
      sym (get_or-map (relation_of script.tables) script.select.sources n d (record { name = []; columns = [] }) h) ∙ ap (λ scope. relation_at scope n) is

-- the type of a column of a relation
pub type_at-there : (scope : List Relation) (c : ColumnRef) → c.relation < length scope → type_at scope c ≡ kind_at (relation_at scope c.relation).columns c.column
unfolding type_at
type_at-there scope c h = ap (λ r. kind_under r c.column) (slice_get-get_or scope c.relation _ h)

pub type_at-past : (scope : List Relation) (c : ColumnRef) → length scope ≤ c.relation → type_at scope c ≡ None
unfolding type_at
type_at-past scope c h = ap (λ r. kind_under r c.column) (slice_get_past scope c.relation h)

module _ (scope : List Relation) (c : ColumnName) where
  -- the columns that a reference may resolve to in the relations from this number on
  unfoldable pub candidates_from : ℕ → List ColumnRef
  candidates_from n = flat_map (λ (p : ℕ × Relation). option_to_list (resolve_in c p.0 p.1)) (enumerate_from n (drop n scope))

  pub candidates_from-start : candidates_from 0 ≡ candidates scope c
  unfolding candidates_from
  candidates_from-start = refl

  pub candidates_from-more : (n : ℕ) → n < length scope → candidates_from n ≡ option_to_list (resolve_in c n (relation_at scope n)) ++ candidates_from (n + 1)
  unfolding candidates_from
  candidates_from-more n h =
      let e : drop n scope ≡ relation_at scope n ∷ drop (n + 1) scope = rw (add-one, drop-cons scope n (record { name = []; columns = [] }) h) refl in
      ap (λ relations. flat_map (λ (p : ℕ × Relation). option_to_list (resolve_in c p.0 p.1)) (enumerate_from n relations)) e

  pub candidates_from-end : (n : ℕ) → length scope ≤ n → candidates_from n ≡ []
  unfolding candidates_from
  candidates_from-end n h =
      ap (λ relations. flat_map (λ (p : ℕ × Relation). option_to_list (resolve_in c p.0 p.1)) (enumerate_from n relations)) (drop_of_length-le scope h)

  -- what has been found in the relations before this number
  pub record IsFound (found : Option ColumnRef) (n : ℕ) : Type 0 where
    pub all : option_to_list found ++ candidates_from n ≡ candidates scope c

  pub found-start : IsFound None 0
  found-start = record { all = candidates_from-start }

  -- a relation without the column
  pub found-none : (found : Option ColumnRef) (n : ℕ) → n < length scope → IsFound found n → resolve_in c n (relation_at scope n) ≡ None → IsFound found (n + 1)
  found-none found n h is e = record {
    all = ap (λ more. option_to_list found ++ more) (sym (candidates_from-more n h ∙ ap (λ o. option_to_list o ++ candidates_from (n + 1)) e)) ∙ is.all;
  }

  -- the first relation with the column
  pub found-some : (found : Option ColumnRef) (n : ℕ) (column : ColumnRef) → n < length scope → IsFound found n
      → resolve_in c n (relation_at scope n) ≡ Some column → is_some found ≡ false → IsFound (Some column) (n + 1)
  found-some None n column h is e differs = record {
    all = sym (candidates_from-more n h ∙ ap (λ o. option_to_list o ++ candidates_from (n + 1)) e) ∙ is.all;
  }
  found-some (Some first) n column h is e differs = cc

  -- a second relation with the column
  pub found-some_twice : (found : Option ColumnRef) (n : ℕ) (column : ColumnRef) → n < length scope → IsFound found n
      → resolve_in c n (relation_at scope n) ≡ Some column → is_some found ≡ true → resolve scope c ≡ Err Ambiguous
  unfolding resolve
  found-some_twice None n column h is e same = cc
  found-some_twice (Some first) n column h is e same =
      sym (ap only_candidate (ap (λ more. first ∷ more) (sym (candidates_from-more n h ∙ ap (λ o. option_to_list o ++ candidates_from (n + 1)) e)) ∙ is.all))

  pub found-end-none : (n : ℕ) → length scope ≤ n → IsFound None n → resolve scope c ≡ Err UnknownColumn
  unfolding resolve
  found-end-none n h is = sym (ap only_candidate (sym (candidates_from-end n h) ∙ is.all))

  pub found-end-some : (n : ℕ) (column : ColumnRef) → length scope ≤ n → IsFound (Some column) n → resolve scope c ≡ Ok column
  unfolding resolve
  found-end-some n column h is = sym (ap only_candidate (ap (λ more. column ∷ more) (sym (candidates_from-end n h)) ∙ is.all))
