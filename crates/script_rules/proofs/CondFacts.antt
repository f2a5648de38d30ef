-- What is said of a condition, one level at a time.
use Rattle.std.proofs.Common.{◌≡◌, ◌∙◌, ℕ, Bool, false, List, [], ◌∷◌, map, refl, ap, sym, subst}
use Rattle.std.specs.List.{flat_map}
use Rattle.std.proofs.lemmas.List.Folds.{flat_map-map}
use Rattle.rpt_base.specs.declared.values.Value.{Value}
use Rattle.sql_grammar.specs.declared.tree.Cond.{Cond}
use Rattle.sql_grammar.specs.declared.tree.Cond.TheOpen.{Cond-F, And, Or, Not, Compare, Between, InList, Like}
use Rattle.sql_grammar.specs.declared.tree.Cond.TheFolds.{fold-Cond, fold-roll-Cond, ind-Cond}
use Rattle.sql_grammar.specs.declared.tree.Cond.{map-Cond, roll-Cond}
use Rattle.sql_grammar.specs.declared.tree.Cond.TheVariants.{rolls-And, rolls-Or, rolls-Not, rolls-Compare, rolls-Between, rolls-InList, rolls-Like}
use Rattle.sql_grammar.specs.declared.tree.Cond.TheVariants as c
use Rattle.sql_grammar.specs.declared.tree.Expr.{Expr}
use Rattle.rpt_base.specs.declared.comparisons.Comparison.{Comparison}
use Rattle.column_classes.specs.declared.columns.ColumnRef.{ColumnRef}
use Rattle.script_rules.specs.declared.found.Violation.{Violation}
use Rattle.script_rules.specs.Scope.{Relation}
use Rattle.script_rules.specs.Conjuncts.{Flattened, alone, columns_in, columns_in_over, columns_of_operands, first_place, is_column_equality, is_equality, is_equality_over, parts_of, place_of, place_over, take_apart_over}
use Rattle.script_rules.specs.Violations.{between_violations, compare_violations, cond_violations, cond_violations_over, like_violations, list_violations}

module _ (scope : List Relation) where
  pub cond_violations-And : (members : List Cond) → cond_violations scope (c.And members) ≡ flat_map (cond_violations scope) members
  unfolding cond_violations
  cond_violations-And members =
      ap (cond_violations scope) (sym (rolls-And members)) ∙ fold-roll-Cond (List Violation) (cond_violations_over scope) (And members) ∙ flat_map-map (λ violations. violations) (cond_violations scope) members

  pub cond_violations-Or : (members : List Cond) → cond_violations scope (c.Or members) ≡ flat_map (cond_violations scope) members
  unfolding cond_violations
  cond_violations-Or members =
      ap (cond_violations scope) (sym (rolls-Or members)) ∙ fold-roll-Cond (List Violation) (cond_violations_over scope) (Or members) ∙ flat_map-map (λ violations. violations) (cond_violations scope) members

  pub cond_violations-Not : (at : ℕ) (inner : Cond) → cond_violations scope (c.Not at inner) ≡ cond_violations scope inner
  unfolding cond_violations
  cond_violations-Not at inner = ap (cond_violations scope) (sym (rolls-Not at inner)) ∙ fold-roll-Cond (List Violation) (cond_violations_over scope) (Not at inner)

  pub cond_violations-Compare : (at : ℕ) (op : Comparison) (left right : Expr) → cond_violations scope (c.Compare at op left right) ≡ compare_violations scope at left right
  unfolding cond_violations
  cond_violations-Compare at op left right = ap (cond_violations scope) (sym (rolls-Compare at op left right)) ∙ fold-roll-Cond (List Violation) (cond_violations_over scope) (Compare at op left right)

  pub cond_violations-Between : (at : ℕ) (negated : Bool) (operand low high : Expr) → cond_violations scope (c.Between at negated operand low high) ≡ between_violations scope at operand low high
  unfolding cond_violations
  cond_violations-Between at negated operand low high =
      ap (cond_violations scope) (sym (rolls-Between at negated operand low high)) ∙ fold-roll-Cond (List Violation) (cond_violations_over scope) (Between at negated operand low high)

  pub cond_violations-InList : (at : ℕ) (negated : Bool) (operand : Expr) (values : List Value) → cond_violations scope (c.InList at negated operand values) ≡ list_violations scope at operand values
  unfolding cond_violations
  cond_violations-InList at negated operand values =
      ap (cond_violations scope) (sym (rolls-InList at negated operand values)) ∙ fold-roll-Cond (List Violation) (cond_violations_over scope) (InList at negated operand values)

  pub cond_violations-Like : (at : ℕ) (negated : Bool) (operand : Expr) (pattern : List ℕ) → cond_violations scope (c.Like at negated operand pattern) ≡ like_violations scope at operand
  unfolding cond_violations
  cond_violations-Like at negated operand pattern =
      ap (cond_violations scope) (sym (rolls-Like at negated operand pattern)) ∙ fold-roll-Cond (List Violation) (cond_violations_over scope) (Like at negated operand pattern)

  pub columns_in-And : (members : List Cond) → columns_in scope (c.And members) ≡ flat_map (columns_in scope) members
  unfolding columns_in
  columns_in-And members =
      ap (columns_in scope) (sym (rolls-And members)) ∙ fold-roll-Cond (List ColumnRef) (columns_in_over scope) (And members) ∙ flat_map-map (λ columns. columns) (columns_in scope) members

  pub columns_in-Or : (members : List Cond) → columns_in scope (c.Or members) ≡ flat_map (columns_in scope) members
  unfolding columns_in
  columns_in-Or members =
      ap (columns_in scope) (sym (rolls-Or members)) ∙ fold-roll-Cond (List ColumnRef) (columns_in_over scope) (Or members) ∙ flat_map-map (λ columns. columns) (columns_in scope) members

  pub columns_in-Not : (at : ℕ) (inner : Cond) → columns_in scope (c.Not at inner) ≡ columns_in scope inner
  unfolding columns_in
  columns_in-Not at inner = ap (columns_in scope) (sym (rolls-Not at inner)) ∙ fold-roll-Cond (List ColumnRef) (columns_in_over scope) (Not at inner)

  pub columns_in-Compare : (at : ℕ) (op : Comparison) (left right : Expr) → columns_in scope (c.Compare at op left right) ≡ columns_of_operands scope (left ∷ right ∷ [])
  unfolding columns_in
  columns_in-Compare at op left right =
      ap (columns_in scope) (sym (rolls-Compare at op left right)) ∙ fold-roll-Cond (List ColumnRef) (columns_in_over scope) (Compare at op left right)

  pub columns_in-Between : (at : ℕ) (negated : Bool) (operand low high : Expr)
      → columns_in scope (c.Between at negated operand low high) ≡ columns_of_operands scope (operand ∷ low ∷ high ∷ [])
  unfolding columns_in
  columns_in-Between at negated operand low high =
      ap (columns_in scope) (sym (rolls-Between at negated operand low high)) ∙ fold-roll-Cond (List ColumnRef) (columns_in_over scope) (Between at negated operand low high)

  pub columns_in-InList : (at : ℕ) (negated : Bool) (operand : Expr) (values : List Value) → columns_in scope (c.InList at negated operand values) ≡ columns_of_operands scope (operand ∷ [])
  unfolding columns_in
  columns_in-InList at negated operand values =
      ap (columns_in scope) (sym (rolls-InList at negated operand values)) ∙ fold-roll-Cond (List ColumnRef) (columns_in_over scope) (InList at negated operand values)

  pub columns_in-Like : (at : ℕ) (negated : Bool) (operand : Expr) (pattern : List ℕ) → columns_in scope (c.Like at negated operand pattern) ≡ columns_of_operands scope (operand ∷ [])
  unfolding columns_in
  columns_in-Like at negated operand pattern =
      ap (columns_in scope) (sym (rolls-Like at negated operand pattern)) ∙ fold-roll-Cond (List ColumnRef) (columns_in_over scope) (Like at negated operand pattern)

pub place_of-And : (members : List Cond) → place_of (c.And members) ≡ first_place (map place_of members)
unfolding place_of
place_of-And members = ap place_of (sym (rolls-And members)) ∙ fold-roll-Cond ℕ place_over (And members)

pub place_of-Or : (members : List Cond) → place_of (c.Or members) ≡ first_place (map place_of members)
unfolding place_of
place_of-Or members = ap place_of (sym (rolls-Or members)) ∙ fold-roll-Cond ℕ place_over (Or members)

pub place_of-Not : (at : ℕ) (inner : Cond) → place_of (c.Not at inner) ≡ at
unfolding place_of
place_of-Not at inner = ap place_of (sym (rolls-Not at inner)) ∙ fold-roll-Cond ℕ place_over (Not at inner)

pub place_of-Compare : (at : ℕ) (op : Comparison) (left right : Expr) → place_of (c.Compare at op left right) ≡ at
unfolding place_of
place_of-Compare at op left right = ap place_of (sym (rolls-Compare at op left right)) ∙ fold-roll-Cond ℕ place_over (Compare at op left right)

pub place_of-Between : (at : ℕ) (negated : Bool) (operand low high : Expr) → place_of (c.Between at negated operand low high) ≡ at
unfolding place_of
place_of-Between at negated operand low high = ap place_of (sym (rolls-Between at negated operand low high)) ∙ fold-roll-Cond ℕ place_over (Between at negated operand low high)

pub place_of-InList : (at : ℕ) (negated : Bool) (operand : Expr) (values : List Value) → place_of (c.InList at negated operand values) ≡ at
unfolding place_of
place_of-InList at negated operand values = ap place_of (sym (rolls-InList at negated operand values)) ∙ fold-roll-Cond ℕ place_over (InList at negated operand values)

pub place_of-Like : (at : ℕ) (negated : Bool) (operand : Expr) (pattern : List ℕ) → place_of (c.Like at negated operand pattern) ≡ at
unfolding place_of
place_of-Like at negated operand pattern = ap place_of (sym (rolls-Like at negated operand pattern)) ∙ fold-roll-Cond ℕ place_over (Like at negated operand pattern)

pub is_equality-Compare : (at : ℕ) (op : Comparison) (left right : Expr) → is_equality (c.Compare at op left right) ≡ is_column_equality op left right
unfolding is_equality
is_equality-Compare at op left right = ap is_equality (sym (rolls-Compare at op left right)) ∙ fold-roll-Cond Bool is_equality_over (Compare at op left right)

is_equality-layer : (x : Cond-F Cond) → ((at : ℕ) (op : Comparison) (left right : Expr) → roll-Cond x ≡ c.Compare at op left right → ⊥) → is_equality (roll-Cond x) ≡ false
unfolding is_equality
is_equality-layer (And members) no_compare = fold-roll-Cond Bool is_equality_over (And members)
is_equality-layer (Or members) no_compare = fold-roll-Cond Bool is_equality_over (Or members)
is_equality-layer (Not at inner) no_compare = fold-roll-Cond Bool is_equality_over (Not at inner)
is_equality-layer (Compare at op left right) no_compare = absurd (no_compare at op left right (rolls-Compare at op left right))
is_equality-layer (Between at negated operand low high) no_compare = fold-roll-Cond Bool is_equality_over (Between at negated operand low high)
is_equality-layer (InList at negated operand values) no_compare = fold-roll-Cond Bool is_equality_over (InList at negated operand values)
is_equality-layer (Like at negated operand pattern) no_compare = fold-roll-Cond Bool is_equality_over (Like at negated operand pattern)

abbrev EqualsOnlyIfCompare : Cond → Type 0
EqualsOnlyIfCompare x = ((at : ℕ) (op : Comparison) (left right : Expr) → x ≡ c.Compare at op left right → ⊥) → is_equality x ≡ false

-- what is no comparison is no equality
pub is_equality-other : (x : Cond) → ((at : ℕ) (op : Comparison) (left right : Expr) → x ≡ c.Compare at op left right → ⊥) → is_equality x ≡ false
is_equality-other = ind-Cond EqualsOnlyIfCompare (λ x y is. is_equality-layer x)

-- how a condition is taken apart
abbrev taken : Cond → Flattened
taken = fold-Cond Flattened take_apart_over

abbrev StaysWhole : Cond → Type 0
StaysWhole x = (taken x).whole ≡ x

whole-all : (members : List ((x : Cond) × StaysWhole x)) → map (λ (m : Flattened). m.whole) (map taken (map (λ e. e.0) members)) ≡ map (λ e. e.0) members
whole-all [] = refl
whole-all (e ∷ members) = rw (e.1, whole-all members) refl

-- a layer whose members stay whole stays whole
whole-layer : (y : Cond-F ((x : Cond) × StaysWhole x)) → StaysWhole (roll-Cond (map-Cond ((x : Cond) × StaysWhole x) Cond (λ e. e.0) y))
whole-layer (And members) =
    ap (λ (t : Flattened). t.whole) (fold-roll-Cond Flattened take_apart_over (And (map (λ e. e.0) members))) ∙ ap c.And (whole-all members) ∙ sym (rolls-And (map (λ e. e.0) members))
whole-layer (Or members) =
    ap (λ (t : Flattened). t.whole) (fold-roll-Cond Flattened take_apart_over (Or (map (λ e. e.0) members))) ∙ ap c.Or (whole-all members) ∙ sym (rolls-Or (map (λ e. e.0) members))
whole-layer (Not at inner) = ap (λ (t : Flattened). t.whole) (fold-roll-Cond Flattened take_apart_over (Not at inner.0)) ∙ ap (c.Not at) inner.1 ∙ sym (rolls-Not at inner.0)
whole-layer (Compare at op left right) = ap (λ (t : Flattened). t.whole) (fold-roll-Cond Flattened take_apart_over (Compare at op left right)) ∙ sym (rolls-Compare at op left right)
whole-layer (Between at negated operand low high) =
    ap (λ (t : Flattened). t.whole) (fold-roll-Cond Flattened take_apart_over (Between at negated operand low high)) ∙ sym (rolls-Between at negated operand low high)
whole-layer (InList at negated operand values) =
    ap (λ (t : Flattened). t.whole) (fold-roll-Cond Flattened take_apart_over (InList at negated operand values)) ∙ sym (rolls-InList at negated operand values)
whole-layer (Like at negated operand pattern) =
    ap (λ (t : Flattened). t.whole) (fold-roll-Cond Flattened take_apart_over (Like at negated operand pattern)) ∙ sym (rolls-Like at negated operand pattern)

whole-is : (x : Cond) → StaysWhole x
whole-is = ind-Cond StaysWhole (λ x y is. subst (λ z. StaysWhole (roll-Cond z)) is (whole-layer y))

pub parts_of-And : (members : List Cond) → parts_of (c.And members) ≡ flat_map parts_of members
unfolding parts_of
parts_of-And members =
    ap parts_of (sym (rolls-And members)) ∙ ap (λ (t : Flattened). t.parts) (fold-roll-Cond Flattened take_apart_over (And members)) ∙ flat_map-map (λ (m : Flattened). m.parts) taken members

-- what is alone has itself as its part
alone-is : (x : Cond-F Cond) (w : Cond) → taken (roll-Cond x) ≡ alone w → parts_of (roll-Cond x) ≡ roll-Cond x ∷ []
unfolding parts_of
alone-is x w e = ap (λ (t : Flattened). t.parts) e ∙ ap (λ part. part ∷ []) (sym (ap (λ (t : Flattened). t.whole) e) ∙ whole-is (roll-Cond x))

parts_of-layer : (x : Cond-F Cond) → ((members : List Cond) → roll-Cond x ≡ c.And members → ⊥) → parts_of (roll-Cond x) ≡ roll-Cond x ∷ []
parts_of-layer (And members) no_and = absurd (no_and members (rolls-And members))
parts_of-layer (Or members) no_and = alone-is (Or members) _ (fold-roll-Cond Flattened take_apart_over (Or members))
parts_of-layer (Not at inner) no_and = alone-is (Not at inner) _ (fold-roll-Cond Flattened take_apart_over (Not at inner))
parts_of-layer (Compare at op left right) no_and = alone-is (Compare at op left right) _ (fold-roll-Cond Flattened take_apart_over (Compare at op left right))
parts_of-layer (Between at negated operand low high) no_and =
    alone-is (Between at negated operand low high) _ (fold-roll-Cond Flattened take_apart_over (Between at negated operand low high))
parts_of-layer (InList at negated operand values) no_and = alone-is (InList at negated operand values) _ (fold-roll-Cond Flattened take_apart_over (InList at negated operand values))
parts_of-layer (Like at negated operand pattern) no_and = alone-is (Like at negated operand pattern) _ (fold-roll-Cond Flattened take_apart_over (Like at negated operand pattern))

abbrev IsAloneUnlessAnd : Cond → Type 0
IsAloneUnlessAnd x = ((members : List Cond) → x ≡ c.And members → ⊥) → parts_of x ≡ x ∷ []

-- what is no And is its only part
pub parts_of-other : (x : Cond) → ((members : List Cond) → x ≡ c.And members → ⊥) → parts_of x ≡ x ∷ []
parts_of-other = ind-Cond IsAloneUnlessAnd (λ x y is. parts_of-layer x)
