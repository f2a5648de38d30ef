-- What a condition is over the columns of its relation, one level at a time, and the conjuncts that a relation keeps.
use Rattle.std.proofs.Common.{refl, ◌≡◌, ◌∙◌, ◌++◌, ℕ, Bool, List, [], ◌∷◌, map, ap, sym}
use Rattle.std.specs.List.{filter, flat_map}
use Rattle.std.proofs.lemmas.List.{map-append}
use Rattle.std.proofs.lemmas.List.Elements.{filter-append}
use Rattle.rpt_base.specs.declared.values.Value.{Value}
use Rattle.predicate.specs.declared.tree.Pred.{Pred}
use Rattle.predicate.specs.declared.tree.Pred.TheVariants as pred
use Rattle.sql_grammar.specs.declared.tree.Cond.{Cond}
use Rattle.sql_grammar.specs.declared.tree.Cond.TheOpen.{And, Or, Not, Compare, Between, InList, Like}
use Rattle.sql_grammar.specs.declared.tree.Cond.TheFolds.{fold-roll-Cond}
use Rattle.sql_grammar.specs.declared.tree.Cond.TheVariants.{rolls-And, rolls-Or, rolls-Not, rolls-Compare, rolls-Between, rolls-InList, rolls-Like}
use Rattle.sql_grammar.specs.declared.tree.Cond.TheVariants as c
use Rattle.sql_grammar.specs.declared.tree.Expr.{Expr}
use Rattle.rpt_base.specs.declared.comparisons.Comparison.{Comparison}
use Rattle.script_rules.specs.Scope.{Relation}
use Rattle.binder.specs.Binding.{between_of, conditions_in, is_condition_of, is_in, negated_if, operand_of, pred_of, pred_over}

module _ (scope : List Relation) where
  pub pred_of-And : (members : List Cond) → pred_of scope (c.And members) ≡ pred.And (map (pred_of scope) members)
  unfolding pred_of
  pred_of-And members = ap (pred_of scope) (sym (rolls-And members)) ∙ fold-roll-Cond Pred (pred_over scope) (And members)

  pub pred_of-Or : (members : List Cond) → pred_of scope (c.Or members) ≡ pred.Or (map (pred_of scope) members)
  unfolding pred_of
  pred_of-Or members = ap (pred_of scope) (sym (rolls-Or members)) ∙ fold-roll-Cond Pred (pred_over scope) (Or members)

  pub pred_of-Not : (at : ℕ) (inner : Cond) → pred_of scope (c.Not at inner) ≡ pred.Not (pred_of scope inner)
  unfolding pred_of
  pred_of-Not at inner = ap (pred_of scope) (sym (rolls-Not at inner)) ∙ fold-roll-Cond Pred (pred_over scope) (Not at inner)

  pub pred_of-Compare : (at : ℕ) (op : Comparison) (left right : Expr)
      → pred_of scope (c.Compare at op left right) ≡ pred.Compare op (operand_of scope left) (operand_of scope right)
  unfolding pred_of
  pred_of-Compare at op left right = ap (pred_of scope) (sym (rolls-Compare at op left right)) ∙ fold-roll-Cond Pred (pred_over scope) (Compare at op left right)

  pub pred_of-Between : (at : ℕ) (negated : Bool) (operand low high : Expr)
      → pred_of scope (c.Between at negated operand low high) ≡ negated_if negated (between_of scope operand low high)
  unfolding pred_of
  pred_of-Between at negated operand low high =
      ap (pred_of scope) (sym (rolls-Between at negated operand low high)) ∙ fold-roll-Cond Pred (pred_over scope) (Between at negated operand low high)

  pub pred_of-InList : (at : ℕ) (negated : Bool) (operand : Expr) (values : List Value)
      → pred_of scope (c.InList at negated operand values) ≡ negated_if negated (is_in (operand_of scope operand) values)
  unfolding pred_of
  pred_of-InList at negated operand values =
      ap (pred_of scope) (sym (rolls-InList at negated operand values)) ∙ fold-roll-Cond Pred (pred_over scope) (InList at negated operand values)

  pub pred_of-Like : (at : ℕ) (negated : Bool) (operand : Expr) (pattern : List ℕ)
      → pred_of scope (c.Like at negated operand pattern) ≡ negated_if negated (pred.Like (operand_of scope operand) pattern)
  unfolding pred_of
  pred_of-Like at negated operand pattern =
      ap (pred_of scope) (sym (rolls-Like at negated operand pattern)) ∙ fold-roll-Cond Pred (pred_over scope) (Like at negated operand pattern)

  module _ (r : ℕ) where
    conditions-append : (xs ys : List Cond) → conditions_in scope r (xs ++ ys) ≡ conditions_in scope r xs ++ conditions_in scope r ys
    conditions-append xs ys = ap (map (pred_of scope)) (filter-append (is_condition_of scope r) xs ys) ∙ map-append (pred_of scope) (filter (is_condition_of scope r) xs) (filter (is_condition_of scope r) ys)

    -- conjunct by conjunct
    pub conditions-each : (conds : List Cond) → flat_map (λ x. conditions_in scope r (x ∷ [])) conds ≡ conditions_in scope r conds
    conditions-each [] = refl
    conditions-each (x ∷ conds) = ap (λ rest. conditions_in scope r (x ∷ []) ++ rest) (conditions-each conds) ∙ sym (conditions-append (x ∷ []) conds)
