-- The conjuncts of a script, and what they name.
use Rattle.std.specs.Prelude.{ℕ, ◌==◌, Bool, true, false, not, List, [], ◌∷◌, ◌++◌, map, Option, None, Some, Result, Ok, Err}
use Rattle.std.specs.List.{flat_map, list_all}
use Rattle.std.specs.Option.{option_to_list}
use Rattle.sql_grammar.specs.declared.tree.Script.{Script}
use Rattle.sql_grammar.specs.declared.tree.Source.{Source}
use Rattle.sql_grammar.specs.declared.tree.Expr.{Expr}
use Rattle.sql_grammar.specs.declared.tree.Expr.TheVariants as expr
use Rattle.rpt_base.specs.declared.comparisons.Comparison.{Comparison}
use Rattle.rpt_base.specs.declared.comparisons.Comparison.TheVariants as op
use Rattle.sql_grammar.specs.declared.tree.Cond.{Cond}
use Rattle.sql_grammar.specs.declared.tree.Cond.TheOpen.{Cond-F, And, Or, Not, Compare, Between, InList, Like}
use Rattle.sql_grammar.specs.declared.tree.Cond.TheFolds.{fold-Cond}
use Rattle.sql_grammar.specs.declared.tree.Cond.TheVariants as cond
use Rattle.column_classes.specs.declared.columns.ColumnRef.{ColumnRef}
use Rattle.script_rules.specs.declared.kinds.BindKind.{BindKind}
use Rattle.script_rules.specs.Scope.{Relation, resolve}

-- the conditions of a script: those of the joined sources in order, and then that of WHERE
abbrev pub conditions_of : Script → List Cond
conditions_of script =
    flat_map (λ (s : Source). option_to_list s.on) script.select.sources ++ option_to_list script.select.filter

-- a condition, and what is left where every And is taken apart
pub record Flattened : Type 0 where
  pub whole : Cond
  pub parts : List Cond

-- a condition that is no And is its only part
abbrev pub alone : Cond → Flattened
alone c = record { whole = c; parts = c ∷ [] }

-- a condition, given how its members are taken apart
abbrev pub take_apart_over : Cond-F Flattened → Flattened
take_apart_over (And members) = record {
  whole = cond.And (map (λ (m : Flattened). m.whole) members);
  parts = flat_map (λ (m : Flattened). m.parts) members;
}
take_apart_over (Or members) = alone (cond.Or (map (λ (m : Flattened). m.whole) members))
take_apart_over (Not at inner) = alone (cond.Not at inner.whole)
take_apart_over (Compare at op left right) = alone (cond.Compare at op left right)
take_apart_over (Between at negated operand low high) = alone (cond.Between at negated operand low high)
take_apart_over (InList at negated operand values) = alone (cond.InList at negated operand values)
take_apart_over (Like at negated operand pattern) = alone (cond.Like at negated operand pattern)

-- every And is taken apart
unfoldable pub parts_of : Cond → List Cond
parts_of c = (fold-Cond Flattened take_apart_over c).parts

-- the conjuncts of a script
abbrev pub conjuncts_of : Script → List Cond
conjuncts_of script = flat_map parts_of (conditions_of script)

-- a comparison by = of two columns
abbrev pub is_column_equality : Comparison → Expr → Expr → Bool
is_column_equality op.Eq (expr.Column a) (expr.Column b) = true
is_column_equality _ _ _ = false

-- an equality of two columns, whatever its members are
abbrev pub is_equality_over : Cond-F Bool → Bool
is_equality_over (Compare at op left right) = is_column_equality op left right
is_equality_over _ = false

-- an equality of two columns
unfoldable pub is_equality : Cond → Bool
is_equality = fold-Cond Bool is_equality_over

-- the first of the places
abbrev pub first_place : List ℕ → ℕ
first_place [] = 0
first_place (at ∷ places) = at

-- where a condition begins, given where its members do
abbrev pub place_over : Cond-F ℕ → ℕ
place_over (And members) = first_place members
place_over (Or members) = first_place members
place_over (Not at inner) = at
place_over (Compare at op left right) = at
place_over (Between at negated operand low high) = at
place_over (InList at negated operand values) = at
place_over (Like at negated operand pattern) = at

-- the offset of a condition's first token that is no parenthesis
unfoldable pub place_of : Cond → ℕ
place_of = fold-Cond ℕ place_over

-- the column that was resolved, if one was
abbrev pub found : Result ColumnRef BindKind → Option ColumnRef
found (Ok c) = Some c
found (Err kind) = None

-- the column that an operand is, if it is one
unfoldable pub column_of : List Relation → Expr → Option ColumnRef
column_of scope (expr.Column c) = found (resolve scope c)
column_of scope (expr.Literal at v) = None

-- the columns of operands in order
abbrev pub columns_of_operands : List Relation → List Expr → List ColumnRef
columns_of_operands scope operands = flat_map (λ o. option_to_list (column_of scope o)) operands

-- the columns that a condition names, given those that its members name
abbrev pub columns_in_over : List Relation → Cond-F (List ColumnRef) → List ColumnRef
columns_in_over scope (And members) = flat_map (λ columns. columns) members
columns_in_over scope (Or members) = flat_map (λ columns. columns) members
columns_in_over scope (Not at inner) = inner
columns_in_over scope (Compare at op left right) = columns_of_operands scope (left ∷ right ∷ [])
columns_in_over scope (Between at negated operand low high) = columns_of_operands scope (operand ∷ low ∷ high ∷ [])
columns_in_over scope (InList at negated operand values) = columns_of_operands scope (operand ∷ [])
columns_in_over scope (Like at negated operand pattern) = columns_of_operands scope (operand ∷ [])

-- the columns that a condition names
unfoldable pub columns_in : List Relation → Cond → List ColumnRef
columns_in scope = fold-Cond (List ColumnRef) (columns_in_over scope)

-- the relation of the first column
abbrev pub first_relation : List ColumnRef → Option ℕ
first_relation [] = None
first_relation (c ∷ columns) = Some c.relation

-- all columns are of this relation
abbrev pub are_of : ℕ → List ColumnRef → Bool
are_of r columns = list_all (λ (c : ColumnRef). c.relation == r) columns

-- the columns are of two or more relations
abbrev pub of_two_relations : List ColumnRef → Bool
of_two_relations columns = others (first_relation columns)
  where
    others : Option ℕ → Bool
    others None = false
    others (Some r) = not (are_of r columns)
