-- The columns that the names of a script resolve to are columns of its relations.
use Rattle.std.proofs.Common.{◌≡◌, ◌∙◌, ◌<◌, ◌+◌, ℕ, zero, suc, Bool, true, false, cond, List, [], ◌∷◌, length, map, refl, ap, sym, subst, arith, nat_lt}
use Rattle.std.specs.Prelude.{All, Option, None, Some, slice_get}
use Rattle.std.specs.List.{enumerate_from, flat_map, position_or_len}
use Rattle.std.specs.Option.{option_map, option_to_list}
use Rattle.std.specs.Str.{bytes_eq}
use Rattle.std.proofs.lemmas.Bool.Decides.{nat_tests}
use Rattle.std.proofs.lemmas.List.Elements.{All-append, All-cons, All-nil}
use Rattle.std.proofs.lemmas.Option.{slice_get-map, slice_get_within}
use Rattle.rpt_base.specs.declared.values.ColumnType.{ColumnType}
use Rattle.sql_grammar.specs.declared.tree.ColumnItem.{ColumnItem}
use Rattle.sql_grammar.specs.declared.tree.ColumnName.{ColumnName}
use Rattle.sql_grammar.specs.declared.tree.Cond.{Cond, map-Cond, roll-Cond}
use Rattle.sql_grammar.specs.declared.tree.Cond.TheOpen.{Cond-F, And, Or, Not, Compare, Between, InList, Like}
use Rattle.sql_grammar.specs.declared.tree.Cond.TheFolds.{ind-Cond}
use Rattle.sql_grammar.specs.declared.tree.Cond.TheVariants.{rolls-And, rolls-Or, rolls-Not, rolls-Compare, rolls-Between, rolls-InList, rolls-Like}
use Rattle.sql_grammar.specs.declared.tree.Expr.{Expr}
use Rattle.sql_grammar.specs.declared.tree.Expr.TheVariants as expr
use Rattle.column_classes.specs.declared.columns.ColumnRef.{ColumnRef}
use Rattle.script_rules.specs.Scope.{Relation, column_in, kind_under, may_name, resolve, resolve_in, candidates, only_candidate, type_at}
use Rattle.script_rules.specs.Conjuncts.{column_of, columns_in, columns_of_operands, found}
use Rattle.script_rules.proofs.CondFacts.{columns_in-And, columns_in-Or, columns_in-Not, columns_in-Compare, columns_in-Between, columns_in-InList, columns_in-Like}
use Rattle.rpt_base.proofs.ListFacts.{all-flat_map}

-- the columns of a relation that may be missing
abbrev pub columns_under : Option Relation → List ColumnItem
columns_under None = []
columns_under (Some r) = r.columns

-- the types of a relation's columns
abbrev pub scope_kinds : List Relation → ℕ → List ColumnType
scope_kinds scope r = map (λ (i : ColumnItem). i.kind) (columns_under (slice_get scope r))

kind_under-kinds : (o : Option Relation) (place : ℕ) → kind_under o place ≡ slice_get (map (λ (i : ColumnItem). i.kind) (columns_under o)) place
kind_under-kinds None place = refl
kind_under-kinds (Some r) place = sym (slice_get-map (λ (i : ColumnItem). i.kind) r.columns place)

pub type_at-kinds : (scope : List Relation) (column : ColumnRef) → type_at scope column ≡ slice_get (scope_kinds scope column.relation) column.column
unfolding type_at
type_at-kinds scope column = kind_under-kinds (slice_get scope column.relation) column.column

-- each element beside its place
pub places-of : {X : Type 0} (whole : List X) (n : ℕ) (xs : List X) → ((k : ℕ) → slice_get xs k ≡ slice_get whole (n + k))
    → All (λ (p : ℕ × X). slice_get whole p.0 ≡ Some p.1) (enumerate_from n xs)
places-of {X} whole n [] h = All-nil (λ (p : ℕ × X). slice_get whole p.0 ≡ Some p.1)
places-of {X} whole n (x ∷ xs) h =
    let here : n ≡ n + 0 = omega arith in
    All-cons (λ (p : ℕ × X). slice_get whole p.0 ≡ Some p.1) (n, x) (enumerate_from (n + 1) xs) (ap (slice_get whole) here ∙ sym (h 0))
    (places-of whole (n + 1) xs (λ k. let next : n + suc k ≡ n + 1 + k = omega arith in h (suc k) ∙ ap (slice_get whole) next))

pub all-places : {X : Type 0} (xs : List X) → All (λ (p : ℕ × X). slice_get xs p.0 ≡ Some p.1) (enumerate_from 0 xs)
all-places xs = places-of xs 0 xs (λ k. let same : k ≡ 0 + k = omega arith in ap (slice_get xs) same)

pub slice_get-there : {X : Type 0} (xs : List X) (i : ℕ) → i < length xs → (x : X) × (slice_get xs i ≡ Some x)
slice_get-there [] i h = absurd (omega arith)
slice_get-there (x ∷ xs) zero h = (x, refl)
slice_get-there (x ∷ xs) (suc i) h = slice_get-there xs i (omega arith)

-- the column is one of its relation's, and that is one of the scope's
pub record IsColumn (scope : List Relation) (k : ColumnRef) : Type 0 where
  pub at : Relation
  pub relation : slice_get scope k.relation ≡ Some at
  pub column : k.column < length at.columns

module _ (scope : List Relation) where
  type_at-is : (column : ColumnRef) (h : IsColumn scope column) (i : ColumnItem) → slice_get h.at.columns column.column ≡ Some i → type_at scope column ≡ Some i.kind
  unfolding type_at
  type_at-is column h i e = ap (λ o. kind_under o column.column) h.relation ∙ ap (option_map (λ (i : ColumnItem). i.kind)) e

  -- the types of its relation's columns have its place
  pub column-kinds : (column : ColumnRef) → IsColumn scope column → column.column < length (scope_kinds scope column.relation)
  column-kinds column h =
      let there = slice_get-there h.at.columns column.column h.column in
      slice_get_within (scope_kinds scope column.relation) column.column there.0.kind (sym (type_at-kinds scope column) ∙ type_at-is column h there.0 there.1)

  pub type_at-known : (column : ColumnRef) → IsColumn scope column → (t : ColumnType) × (type_at scope column ≡ Some t)
  type_at-known column h =
      let there = slice_get-there (scope_kinds scope column.relation) column.column (column-kinds column h) in
      (there.0, type_at-kinds scope column ∙ there.1)

  -- a place that is found is one of the list's
  placed : (n : ℕ) (r : Relation) → slice_get scope n ≡ Some r → (place : ℕ) (b : Bool) → (b ≡ true → place < length r.columns)
      → All (IsColumn scope) (option_to_list (option_map (λ place. record { relation = n; column = place }) (cond b (Some place) None)))
  placed n r e place true h =
      All-cons (IsColumn scope) (record { relation = n; column = place }) [] (record { at = r; relation = e; column = h refl }) (All-nil (IsColumn scope))
  placed n r e place false h = All-nil (IsColumn scope)

  resolve_in-column : (name : ColumnName) (n : ℕ) (r : Relation) → slice_get scope n ≡ Some r → All (IsColumn scope) (option_to_list (resolve_in name n r))
  resolve_in-column name n r e =
      elim (may_name name.relation r) as (λ b. All (IsColumn scope) (option_to_list (cond b (column_in name.column n r) None))) [
        | true ↦
            let place = position_or_len (λ (i : ColumnItem). bytes_eq i.name name.column) r.columns in
            placed n r e place (nat_lt place (length r.columns)) (λ h. grind (arith, nat_tests))
        | false ↦ All-nil (IsColumn scope)
      ]

  candidates-columns : (name : ColumnName) → All (IsColumn scope) (candidates scope name)
  candidates-columns name =
      all-flat_map (IsColumn scope) (λ (p : ℕ × Relation). option_to_list (resolve_in name p.0 p.1)) (enumerate_from 0 scope)
      (λ k d lt. resolve_in-column name _ _ (all-places scope k d lt))

  only-found : (columns : List ColumnRef) → All (IsColumn scope) columns → All (IsColumn scope) (option_to_list (found (only_candidate columns)))
  only-found [] h = h
  only-found (a ∷ []) h = h
  only-found (a ∷ b ∷ more) h = All-nil (IsColumn scope)

  -- the column that a reference resolves to, if it resolves to one
  pub resolve-column : (name : ColumnName) → All (IsColumn scope) (option_to_list (found (resolve scope name)))
  unfolding resolve
  resolve-column name = only-found (candidates scope name) (candidates-columns name)

  pub column_of-column : (o : Expr) → All (IsColumn scope) (option_to_list (column_of scope o))
  unfolding column_of
  column_of-column (expr.Column name) = resolve-column name
  column_of-column (expr.Literal at v) = All-nil (IsColumn scope)

  operands-columns : (operands : List Expr) → All (IsColumn scope) (columns_of_operands scope operands)
  operands-columns operands = all-flat_map (IsColumn scope) (λ o. option_to_list (column_of scope o)) operands (λ k d lt. column_of-column _)

  abbrev HasColumns : Cond → Type 0
  HasColumns x = All (IsColumn scope) (columns_in scope x)

  members-columns : (members : List ((x : Cond) × HasColumns x)) → All (IsColumn scope) (flat_map (columns_in scope) (map (λ e. e.0) members))
  members-columns [] = All-nil (IsColumn scope)
  members-columns (e ∷ members) = All-append (IsColumn scope) (columns_in scope e.0) (flat_map (columns_in scope) (map (λ e. e.0) members)) e.1 (members-columns members)

  columns-layer : (y : Cond-F ((x : Cond) × HasColumns x)) → HasColumns (roll-Cond (map-Cond ((x : Cond) × HasColumns x) Cond (λ e. e.0) y))
  columns-layer (And members) =
      subst HasColumns (sym (rolls-And (map (λ e. e.0) members))) (subst (All (IsColumn scope)) (sym (columns_in-And scope (map (λ e. e.0) members))) (members-columns members))
  columns-layer (Or members) =
      subst HasColumns (sym (rolls-Or (map (λ e. e.0) members))) (subst (All (IsColumn scope)) (sym (columns_in-Or scope (map (λ e. e.0) members))) (members-columns members))
  columns-layer (Not at inner) = subst HasColumns (sym (rolls-Not at inner.0)) (subst (All (IsColumn scope)) (sym (columns_in-Not scope at inner.0)) inner.1)
  columns-layer (Compare at op left right) =
      subst HasColumns (sym (rolls-Compare at op left right))
      (subst (All (IsColumn scope)) (sym (columns_in-Compare scope at op left right)) (operands-columns (left ∷ right ∷ [])))
  columns-layer (Between at negated operand low high) =
      subst HasColumns (sym (rolls-Between at negated operand low high))
      (subst (All (IsColumn scope)) (sym (columns_in-Between scope at negated operand low high)) (operands-columns (operand ∷ low ∷ high ∷ [])))
  columns-layer (InList at negated operand values) =
      subst HasColumns (sym (rolls-InList at negated operand values))
      (subst (All (IsColumn scope)) (sym (columns_in-InList scope at negated operand values)) (operands-columns (operand ∷ [])))
  columns-layer (Like at negated operand pattern) =
      subst HasColumns (sym (rolls-Like at negated operand pattern))
      (subst (All (IsColumn scope)) (sym (columns_in-Like scope at negated operand pattern)) (operands-columns (operand ∷ [])))

  -- all columns that a condition names are columns of the scope
  pub columns_in-columns : (x : Cond) → HasColumns x
  columns_in-columns = ind-Cond HasColumns (λ x y is. subst (λ z. HasColumns (roll-Cond z)) is (columns-layer y))
