-- A condition without refusals is typed over the columns of its relation.
use Rattle.std.proofs.Common.{◌≡◌, ◌∙◌, ◌==◌, ◌&&◌, ℕ, Bool, true, false, cond, not, List, [], ◌∷◌, ◌++◌, map, filter, refl, ap, sym, subst, arith}
use Rattle.std.specs.Prelude.{All, Option, Some, Result, Ok, Err, slice_get}
use Rattle.std.specs.List.{flat_map, list_all}
use Rattle.std.specs.Option.{option_to_list}
use Rattle.std.proofs.lemmas.Bool.Decides.{Decides-eqb, nat_tests}
use Rattle.std.proofs.lemmas.List.Folds.{list_all-append}
use Rattle.rpt_base.specs.Lists.{all_of}
use Rattle.rpt_base.specs.declared.values.ColumnType.{ColumnType}
use Rattle.rpt_base.specs.declared.values.ColumnType.TheVariants as type
use Rattle.rpt_base.specs.declared.values.Value.{Value}
use Rattle.rpt_base.specs.declared.values.Value.TheVariants as value
use Rattle.predicate.specs.declared.tree.Pred.{Pred}
use Rattle.predicate.specs.declared.tree.Pred.TheVariants as pred
use Rattle.predicate.specs.declared.tree.Operand.{Operand}
use Rattle.predicate.specs.declared.tree.Operand.TheVariants as operand
use Rattle.rpt_base.specs.declared.comparisons.Comparison.TheVariants as op
use Rattle.predicate.specs.Truth.{are_one_type, is_typed, operand_type}
use Rattle.predicate.proofs.TruthFacts.{is_typed-And, is_typed-Or, is_typed-Not, is_typed-Compare, is_typed-Like}
use Rattle.sql_grammar.specs.declared.tree.Cond.{Cond, map-Cond, roll-Cond}
use Rattle.sql_grammar.specs.declared.tree.Cond.TheOpen.{Cond-F, And, Or, Not, Compare, Between, InList, Like}
use Rattle.sql_grammar.specs.declared.tree.Cond.TheFolds.{fold-roll-Cond, ind-Cond}
use Rattle.sql_grammar.specs.declared.tree.Cond.TheVariants.{rolls-And, rolls-Or, rolls-Not, rolls-Compare, rolls-Between, rolls-InList, rolls-Like}
use Rattle.sql_grammar.specs.declared.tree.Cond.TheVariants as c
use Rattle.sql_grammar.specs.declared.tree.Expr.{Expr}
use Rattle.sql_grammar.specs.declared.tree.Expr.TheVariants as expr
use Rattle.rpt_base.specs.declared.comparisons.Comparison.{Comparison}
use Rattle.column_classes.specs.declared.columns.ColumnRef.{ColumnRef}
use Rattle.script_rules.specs.declared.kinds.BindKind.{BindKind}
use Rattle.script_rules.specs.Scope.{Relation, resolve}
use Rattle.script_rules.specs.Conjuncts.{are_of, column_of, columns_in, columns_of_operands, found, is_equality, of_two_relations}
use Rattle.script_rules.specs.Violations.{between_violations, compare_violations, cond_violations, conjunct_violations, differ, is_same_type, join_violations, like_violations, list_violations, resolved_violations, operand_violations, reference_violations, type_violations, resolved_type, type_of}
use Rattle.column_table.specs.Table.{type_of_value}
use Rattle.binder.specs.Binding.{condition_of, is_between, is_condition_of, is_in, negated_if, operand_of, resolved_place, pred_of, pred_over, relation_of_conjunct}
use Rattle.script_rules.proofs.TypeFacts.{differ-values}
use Rattle.script_rules.proofs.CondFacts.{columns_in-And, columns_in-Or, columns_in-Not, columns_in-Compare, columns_in-Between, columns_in-InList, columns_in-Like, cond_violations-And, cond_violations-Or, cond_violations-Not, cond_violations-Compare, cond_violations-Between, cond_violations-InList, cond_violations-Like}
use Rattle.binder.proofs.ClearFacts.{and-left, and-right, not-false}
use Rattle.script_rules.proofs.LimitFacts.{no_violation}
use Rattle.std.proofs.lemmas.Bool.{and_from}
use Rattle.rpt_base.proofs.ListFacts.{back-empty, front-empty}
use Rattle.binder.proofs.RangeFacts.{IsColumn, column_of-column, scope_kinds, type_at-kinds, type_at-known}

module _ (scope : List Relation) where
  pub pred_of-And : (members : List Cond) → pred_of scope (c.And members) ≡ pred.And (map (pred_of scope) members)
  unfolding pred_of
  pred_of-And members = ap (pred_of scope) (sym (rolls-And members)) ∙ fold-roll-Cond Pred (pred_over scope) (And members)

  pub pred_of-Or : (members : List Cond) → pred_of scope (c.Or members) ≡ pred.Or (map (pred_of scope) members)
  unfolding pred_of
  pred_of-Or members = ap (pred_of scope) (sym (rolls-Or members)) ∙ fold-roll-Cond Pred (pred_over scope) (Or members)

  pub pred_of-Not : (at : ℕ) (inner : Cond) → pred_of scope (c.Not at inner) ≡ pred.Not (pred_of scope inner)
  unfolding pred_of
  pred_of-Not at inner = ap (pred_of scope) (sym (rolls-Not at inner)) ∙ fold-roll-Cond Pred (pred_over scope) (Not at inner)

  pub pred_of-Compare : (at : ℕ) (o : Comparison) (left right : Expr) → pred_of scope (c.Compare at o left right) ≡ pred.Compare o (operand_of scope left) (operand_of scope right)
  unfolding pred_of
  pred_of-Compare at o left right = ap (pred_of scope) (sym (rolls-Compare at o left right)) ∙ fold-roll-Cond Pred (pred_over scope) (Compare at o left right)

  pub pred_of-Between : (at : ℕ) (negated : Bool) (o low high : Expr)
      → pred_of scope (c.Between at negated o low high) ≡ negated_if negated (is_between (operand_of scope o) (operand_of scope low) (operand_of scope high))
  unfolding pred_of
  pred_of-Between at negated o low high = ap (pred_of scope) (sym (rolls-Between at negated o low high)) ∙ fold-roll-Cond Pred (pred_over scope) (Between at negated o low high)

  pub pred_of-InList : (at : ℕ) (negated : Bool) (o : Expr) (values : List Value) → pred_of scope (c.InList at negated o values) ≡ negated_if negated (is_in (operand_of scope o) values)
  unfolding pred_of
  pred_of-InList at negated o values = ap (pred_of scope) (sym (rolls-InList at negated o values)) ∙ fold-roll-Cond Pred (pred_over scope) (InList at negated o values)

  pub pred_of-Like : (at : ℕ) (negated : Bool) (o : Expr) (pattern : List ℕ) → pred_of scope (c.Like at negated o pattern) ≡ negated_if negated (pred.Like (operand_of scope o) pattern)
  unfolding pred_of
  pred_of-Like at negated o pattern = ap (pred_of scope) (sym (rolls-Like at negated o pattern)) ∙ fold-roll-Cond Pred (pred_over scope) (Like at negated o pattern)

negated-typed : (kinds : List ColumnType) (negated : Bool) (p : Pred) → is_typed kinds p ≡ true → is_typed kinds (negated_if negated p) ≡ true
negated-typed kinds true p h = is_typed-Not kinds p ∙ h
negated-typed kinds false p h = h

-- types that do not differ are one type
two-same : (s t : ColumnType) → differ (all_of (Some s ∷ Some t ∷ [])) ≡ false → are_one_type (Some s) (Some t) ≡ true
two-same type.Int type.Int h = refl
two-same type.Int type.Text h = cc
two-same type.Text type.Int h = cc
two-same type.Text type.Text h = refl

three-same : (s t u : ColumnType) → differ (all_of (Some s ∷ Some t ∷ Some u ∷ [])) ≡ false
    → (are_one_type (Some s) (Some t) ≡ true) × (are_one_type (Some s) (Some u) ≡ true)
three-same type.Int type.Int type.Int h = (refl, refl)
three-same type.Int type.Int type.Text h = cc
three-same type.Int type.Text u h = cc
three-same type.Text type.Int u h = cc
three-same type.Text type.Text type.Int h = cc
three-same type.Text type.Text type.Text h = (refl, refl)

same-one : (s : ColumnType) (v : Value) → is_same_type s (type_of_value v) ≡ true → are_one_type (Some s) (operand_type [] (operand.Literal v)) ≡ true
same-one type.Int (value.Int z) h = refl
same-one type.Int (value.Text text) h = cc
same-one type.Text (value.Int z) h = cc
same-one type.Text (value.Text text) h = refl

module _ (scope : List Relation) (r : ℕ) where
  -- the types of the relation's columns
  abbrev kinds : List ColumnType
  kinds = scope_kinds scope r

  is-at : (column : ColumnRef) → are_of r (column ∷ []) ≡ true → column.relation ≡ r
  is-at column h = let e = and-left (column.relation == r) true h in grind (arith, nat_tests)

  resolved-kind : (at : ℕ) (m : Result ColumnRef BindKind) → All (IsColumn scope) (option_to_list (found m)) → resolved_violations at m ≡ [] → are_of r (option_to_list (found m)) ≡ true
      → (t : ColumnType) × (resolved_type scope m ≡ Some t) × (operand_type kinds (operand.Column (resolved_place (found m))) ≡ Some t)
  resolved-kind at (Ok column) there clear of =
      let known = type_at-known scope column (there 0 column (omega arith)) in
      (known.0, known.1, ap (λ n. slice_get (scope_kinds scope n) column.column) (sym (is-at column of)) ∙ sym (type_at-kinds scope column) ∙ known.1)
  resolved-kind at (Err kind) there clear of = cc

  literal-type : (v : Value) → operand_type kinds (operand.Literal v) ≡ Some (type_of_value v)
  literal-type (value.Int z) = refl
  literal-type (value.Text text) = refl

  -- an operand's type is what the condition's operand has
  operand-typed : (o : Expr) → operand_violations scope o ≡ [] → are_of r (option_to_list (column_of scope o)) ≡ true
      → (t : ColumnType) × (type_of scope o ≡ Some t) × (operand_type kinds (operand_of scope o) ≡ Some t)
  unfolding operand_violations reference_violations column_of type_of operand_of
  operand-typed (expr.Column name) clear of = resolved-kind name.at (resolve scope name) (column_of-column scope (expr.Column name)) clear of
  operand-typed (expr.Literal at v) clear of = (type_of_value v, refl, literal-type v)

  types-clear : (at : ℕ) (types : List (Option ColumnType)) → type_violations at types ≡ [] → differ (all_of types) ≡ false
  unfolding type_violations
  types-clear at types h = no_violation _ _ _ h

  of-front : (a b : List ColumnRef) → are_of r (a ++ b) ≡ true → are_of r a ≡ true
  of-front a b h = and-left _ _ (sym (list_all-append (λ (k : ColumnRef). k.relation == r) a b) ∙ h)

  of-back : (a b : List ColumnRef) → are_of r (a ++ b) ≡ true → are_of r b ≡ true
  of-back a b h = and-right _ _ (sym (list_all-append (λ (k : ColumnRef). k.relation == r) a b) ∙ h)

  compare-typed : (at : ℕ) (o : Comparison) (left right : Expr) → compare_violations scope at left right ≡ [] → are_of r (columns_of_operands scope (left ∷ right ∷ [])) ≡ true
      → is_typed kinds (pred.Compare o (operand_of scope left) (operand_of scope right)) ≡ true
  unfolding compare_violations
  compare-typed at o left right clear of =
      let fl = operand_violations scope left in
      let fr = operand_violations scope right in
      let types = type_of scope left ∷ type_of scope right ∷ [] in
      let inside : fl ++ (fr ++ []) ≡ [] = front-empty (fl ++ (fr ++ [])) (type_violations at types) clear in
      let cl = option_to_list (column_of scope left) in
      let cr = option_to_list (column_of scope right) in
      let l = operand-typed left (front-empty fl (fr ++ []) inside) (of-front cl (cr ++ []) of) in
      let r = operand-typed right (front-empty fr [] (back-empty fl (fr ++ []) inside)) (of-front cr [] (of-back cl (cr ++ []) of)) in
      let one = two-same l.0 r.0 (sym (ap (λ (p : Option ColumnType). differ (all_of (p ∷ type_of scope right ∷ []))) l.1 ∙ ap (λ (p : Option ColumnType). differ (all_of (Some l.0 ∷ p ∷ []))) r.1) ∙ types-clear at types (back-empty (fl ++ (fr ++ [])) (type_violations at types) clear)) in
      is_typed-Compare kinds o (operand_of scope left) (operand_of scope right) ∙ ap (λ p. are_one_type p (operand_type kinds (operand_of scope right))) l.2
      ∙ ap (λ p. are_one_type (Some l.0) p) r.2 ∙ one

  between-typed : (at : ℕ) (negated : Bool) (o low high : Expr) → between_violations scope at o low high ≡ [] → are_of r (columns_of_operands scope (o ∷ low ∷ high ∷ [])) ≡ true
      → is_typed kinds (negated_if negated (is_between (operand_of scope o) (operand_of scope low) (operand_of scope high))) ≡ true
  unfolding between_violations
  between-typed at negated o low high clear of =
      let fo = operand_violations scope o in
      let fl = operand_violations scope low in
      let fh = operand_violations scope high in
      let types = type_of scope o ∷ type_of scope low ∷ type_of scope high ∷ [] in
      let inside : fo ++ (fl ++ (fh ++ [])) ≡ [] = front-empty (fo ++ (fl ++ (fh ++ []))) (type_violations at types) clear in
      let co = option_to_list (column_of scope o) in
      let cl = option_to_list (column_of scope low) in
      let ch = option_to_list (column_of scope high) in
      let b = back-empty fo (fl ++ (fh ++ [])) inside in
      let of_b = of-back co (cl ++ (ch ++ [])) of in
      let x = operand-typed o (front-empty fo (fl ++ (fh ++ [])) inside) (of-front co (cl ++ (ch ++ [])) of) in
      let y = operand-typed low (front-empty fl (fh ++ []) b) (of-front cl (ch ++ []) of_b) in
      let z = operand-typed high (front-empty fh [] (back-empty fl (fh ++ []) b)) (of-front ch [] (of-back cl (ch ++ []) of_b)) in
      let types_are : differ (all_of types) ≡ differ (all_of (Some x.0 ∷ Some y.0 ∷ Some z.0 ∷ [])) =
      ap (λ (p : Option ColumnType). differ (all_of (p ∷ type_of scope low ∷ type_of scope high ∷ []))) x.1
      ∙ ap (λ (p : Option ColumnType). differ (all_of (Some x.0 ∷ p ∷ type_of scope high ∷ []))) y.1
      ∙ ap (λ (p : Option ColumnType). differ (all_of (Some x.0 ∷ Some y.0 ∷ p ∷ []))) z.1 in
      let same = three-same x.0 y.0 z.0 (sym types_are ∙ types-clear at types (back-empty (fo ++ (fl ++ (fh ++ []))) (type_violations at types) clear)) in
      let oo = operand_of scope o in
      let ol = operand_of scope low in
      let oh = operand_of scope high in
      let least = is_typed-Compare kinds op.Ge oo ol ∙ ap (λ p. are_one_type p (operand_type kinds ol)) x.2 ∙ ap (λ p. are_one_type (Some x.0) p) y.2 ∙ same.0 in
      let most = is_typed-Compare kinds op.Le oo oh ∙ ap (λ p. are_one_type p (operand_type kinds oh)) x.2 ∙ ap (λ p. are_one_type (Some x.0) p) z.2 ∙ same.1 in
      negated-typed kinds negated (is_between oo ol oh)
      (is_typed-And kinds (pred.Compare op.Ge oo ol ∷ pred.Compare op.Le oo oh ∷ []) ∙ and_from _ _ least (and_from _ _ most refl))

  values-typed : (o : Operand) (t : ColumnType) → operand_type kinds o ≡ Some t → (values : List Value) → list_all (λ v. is_same_type t (type_of_value v)) values ≡ true
      → list_all (is_typed kinds) (map (λ v. pred.Compare op.Eq o (operand.Literal v)) values) ≡ true
  values-typed o t e [] h = refl
  values-typed o t e (v ∷ values) h =
      and_from _ _
      (is_typed-Compare kinds op.Eq o (operand.Literal v) ∙ ap (λ p. are_one_type p (operand_type kinds (operand.Literal v))) e ∙ same-one t v (and-left _ _ h))
      (values-typed o t e values (and-right _ _ h))

  list-typed : (at : ℕ) (negated : Bool) (o : Expr) (values : List Value) → list_violations scope at o values ≡ [] → are_of r (columns_of_operands scope (o ∷ [])) ≡ true
      → is_typed kinds (negated_if negated (is_in (operand_of scope o) values)) ≡ true
  unfolding list_violations
  list-typed at negated o values clear of =
      let fo = operand_violations scope o in
      let rest = map (λ v. Some (type_of_value v)) values in
      let types = type_of scope o ∷ rest in
      let x = operand-typed o (front-empty fo (type_violations at types) clear) (of-front (option_to_list (column_of scope o)) [] of) in
      let same = not-false _ (sym (ap (λ (p : Option ColumnType). differ (all_of (p ∷ rest))) x.1 ∙ differ-values x.0 values) ∙ types-clear at types (back-empty fo (type_violations at types) clear)) in
      negated-typed kinds negated (is_in (operand_of scope o) values)
      (is_typed-Or kinds (map (λ v. pred.Compare op.Eq (operand_of scope o) (operand.Literal v)) values) ∙ values-typed (operand_of scope o) x.0 x.2 values same)

  like-typed : (at : ℕ) (negated : Bool) (o : Expr) (pattern : List ℕ) → like_violations scope at o ≡ [] → are_of r (columns_of_operands scope (o ∷ [])) ≡ true
      → is_typed kinds (negated_if negated (pred.Like (operand_of scope o) pattern)) ≡ true
  unfolding like_violations
  like-typed at negated o pattern clear of =
      let fo = operand_violations scope o in
      let types = type_of scope o ∷ Some type.Text ∷ [] in
      let x = operand-typed o (front-empty fo (type_violations at types) clear) (of-front (option_to_list (column_of scope o)) [] of) in
      let one = two-same x.0 type.Text (sym (ap (λ (p : Option ColumnType). differ (all_of (p ∷ Some type.Text ∷ []))) x.1) ∙ types-clear at types (back-empty fo (type_violations at types) clear)) in
      negated-typed kinds negated (pred.Like (operand_of scope o) pattern)
      (is_typed-Like kinds (operand_of scope o) pattern ∙ ap (λ p. are_one_type p (Some type.Text)) x.2 ∙ one)

  abbrev IsTypedIfClear : Cond → Type 0
  IsTypedIfClear x = cond_violations scope x ≡ [] → are_of r (columns_in scope x) ≡ true → is_typed kinds (pred_of scope x) ≡ true

  members-typed : (members : List ((x : Cond) × IsTypedIfClear x)) → flat_map (cond_violations scope) (map (λ e. e.0) members) ≡ []
      → are_of r (flat_map (columns_in scope) (map (λ e. e.0) members)) ≡ true → list_all (is_typed kinds) (map (pred_of scope) (map (λ e. e.0) members)) ≡ true
  members-typed [] clear of = refl
  members-typed (e ∷ members) clear of =
      let xs = map (λ (e : (x : Cond) × IsTypedIfClear x). e.0) members in
      and_from _ _
      (e.1 (front-empty (cond_violations scope e.0) (flat_map (cond_violations scope) xs) clear) (of-front (columns_in scope e.0) (flat_map (columns_in scope) xs) of))
      (members-typed members (back-empty (cond_violations scope e.0) (flat_map (cond_violations scope) xs) clear) (of-back (columns_in scope e.0) (flat_map (columns_in scope) xs) of))

  typed-layer : (y : Cond-F ((x : Cond) × IsTypedIfClear x)) → IsTypedIfClear (roll-Cond (map-Cond ((x : Cond) × IsTypedIfClear x) Cond (λ e. e.0) y))
  typed-layer (And members) =
      let xs = map (λ (e : (x : Cond) × IsTypedIfClear x). e.0) members in
      subst IsTypedIfClear (sym (rolls-And xs))
      (λ clear of. ap (is_typed kinds) (pred_of-And scope xs) ∙ is_typed-And kinds (map (pred_of scope) xs)
      ∙ members-typed members (sym (cond_violations-And scope xs) ∙ clear) (sym (ap (are_of r) (columns_in-And scope xs)) ∙ of))
  typed-layer (Or members) =
      let xs = map (λ (e : (x : Cond) × IsTypedIfClear x). e.0) members in
      subst IsTypedIfClear (sym (rolls-Or xs))
      (λ clear of. ap (is_typed kinds) (pred_of-Or scope xs) ∙ is_typed-Or kinds (map (pred_of scope) xs)
      ∙ members-typed members (sym (cond_violations-Or scope xs) ∙ clear) (sym (ap (are_of r) (columns_in-Or scope xs)) ∙ of))
  typed-layer (Not at inner) =
      subst IsTypedIfClear (sym (rolls-Not at inner.0))
      (λ clear of. ap (is_typed kinds) (pred_of-Not scope at inner.0) ∙ is_typed-Not kinds (pred_of scope inner.0)
      ∙ inner.1 (sym (cond_violations-Not scope at inner.0) ∙ clear) (sym (ap (are_of r) (columns_in-Not scope at inner.0)) ∙ of))
  typed-layer (Compare at o left right) =
      subst IsTypedIfClear (sym (rolls-Compare at o left right))
      (λ clear of. ap (is_typed kinds) (pred_of-Compare scope at o left right)
      ∙ compare-typed at o left right (sym (cond_violations-Compare scope at o left right) ∙ clear) (sym (ap (are_of r) (columns_in-Compare scope at o left right)) ∙ of))
  typed-layer (Between at negated o low high) =
      subst IsTypedIfClear (sym (rolls-Between at negated o low high))
      (λ clear of. ap (is_typed kinds) (pred_of-Between scope at negated o low high)
      ∙ between-typed at negated o low high (sym (cond_violations-Between scope at negated o low high) ∙ clear) (sym (ap (are_of r) (columns_in-Between scope at negated o low high)) ∙ of))
  typed-layer (InList at negated o values) =
      subst IsTypedIfClear (sym (rolls-InList at negated o values))
      (λ clear of. ap (is_typed kinds) (pred_of-InList scope at negated o values)
      ∙ list-typed at negated o values (sym (cond_violations-InList scope at negated o values) ∙ clear) (sym (ap (are_of r) (columns_in-InList scope at negated o values)) ∙ of))
  typed-layer (Like at negated o pattern) =
      subst IsTypedIfClear (sym (rolls-Like at negated o pattern))
      (λ clear of. ap (is_typed kinds) (pred_of-Like scope at negated o pattern)
      ∙ like-typed at negated o pattern (sym (cond_violations-Like scope at negated o pattern) ∙ clear) (sym (ap (are_of r) (columns_in-Like scope at negated o pattern)) ∙ of))

  -- a condition without refusals whose columns are all of the relation is typed over its columns
  pub pred_of-typed : (x : Cond) → IsTypedIfClear x
  pred_of-typed = ind-Cond IsTypedIfClear (λ x y is. subst (λ z. IsTypedIfClear (roll-Cond z)) is (typed-layer y))

  -- columns of no two relations are of the one that a conjunct is of
  of-one : (x : Cond) (columns : List ColumnRef) → columns_in scope x ≡ columns → of_two_relations columns ≡ false → relation_of_conjunct scope x ≡ r → are_of r columns ≡ true
  of-one x [] e one h = refl
  of-one x (k ∷ columns) e one h =
      let first : k.relation ≡ relation_of_conjunct scope x = rw e refl in
      ap (λ n. are_of n (k ∷ columns)) (sym (first ∙ h)) ∙ not-false _ one

  joined-once : (x : Cond) → join_violations scope x [] ≡ [] → (of_two_relations (columns_in scope x) && not (is_equality x)) ≡ false
  unfolding join_violations
  joined-once x h = no_violation _ _ _ h

  one-relation : (two equality : Bool) → (two && not equality) ≡ false → not equality ≡ true → two ≡ false
  one-relation true true h k = cc
  one-relation true false h k = cc
  one-relation false equality h k = refl

  conjunct-parts : (x : Cond) → conjunct_violations scope x ≡ [] → (cond_violations scope x ≡ []) × (join_violations scope x [] ≡ [])
  unfolding conjunct_violations
  conjunct-parts x h =
      let inside = front-empty (cond_violations scope x) (join_violations scope x (cond_violations scope x)) h in
      (inside, sym (ap (join_violations scope x) inside) ∙ back-empty (cond_violations scope x) (join_violations scope x (cond_violations scope x)) h)

  -- a conjunct without refusals that is a condition of the relation is typed over its columns
  conjunct-typed : (x : Cond) → conjunct_violations scope x ≡ [] → is_condition_of scope r x ≡ true → is_typed kinds (pred_of scope x) ≡ true
  conjunct-typed x clear is =
      let parts = conjunct-parts x clear in
      let plain = and-left (not (is_equality x)) (relation_of_conjunct scope x == r) is in
      let of_r = and-right (not (is_equality x)) (relation_of_conjunct scope x == r) is in
      let there : relation_of_conjunct scope x ≡ r = (Decides-eqb (relation_of_conjunct scope x) r).0 of_r in
      pred_of-typed x parts.0 (of-one x (columns_in scope x) refl (one-relation _ _ (joined-once x parts.1) plain) there)

  kept-typed : (x : Cond) (rest : List Cond) (b : Bool) → (b ≡ true → is_typed kinds (pred_of scope x) ≡ true) → list_all (is_typed kinds) (map (pred_of scope) rest) ≡ true
      → list_all (is_typed kinds) (map (pred_of scope) (cond b (x ∷ rest) rest)) ≡ true
  kept-typed x rest true h k = and_from _ _ (h refl) k
  kept-typed x rest false h k = k

  conjuncts-typed : (conjuncts : List Cond) → flat_map (conjunct_violations scope) conjuncts ≡ [] → list_all (is_typed kinds) (map (pred_of scope) (filter (is_condition_of scope r) conjuncts)) ≡ true
  conjuncts-typed [] clear = refl
  conjuncts-typed (x ∷ conjuncts) clear =
      kept-typed x (filter (is_condition_of scope r) conjuncts) (is_condition_of scope r x)
      (conjunct-typed x (front-empty (conjunct_violations scope x) (flat_map (conjunct_violations scope) conjuncts) clear))
      (conjuncts-typed conjuncts (back-empty (conjunct_violations scope x) (flat_map (conjunct_violations scope) conjuncts) clear))

  -- the condition of a relation is typed over its columns
  pub condition_of-typed : (conjuncts : List Cond) → flat_map (conjunct_violations scope) conjuncts ≡ [] → is_typed kinds (condition_of scope conjuncts r) ≡ true
  unfolding condition_of
  condition_of-typed conjuncts clear = is_typed-And kinds (map (pred_of scope) (filter (is_condition_of scope r) conjuncts)) ∙ conjuncts-typed conjuncts clear
