-- What a condition says, one level at a time.
use Rattle.std.proofs.Common.{◌≡◌, ◌∙◌, ℕ, ◌||◌, Bool, not, List, [], ◌∷◌, Option, Some, None, map, IsTrue, refl, ap, sym}
use Rattle.std.specs.List.{list_all, list_any}
use Rattle.std.proofs.lemmas.List.Folds.{list_all-map}
use Rattle.std.proofs.lemmas.Option.{slice_get_within}
use Rattle.rpt_base.specs.declared.values.ColumnType.{ColumnType}
use Rattle.rpt_base.specs.declared.values.ColumnType.TheVariants as kind
use Rattle.rpt_base.specs.declared.values.Value.{Value}
use Rattle.rpt_base.specs.declared.comparisons.Comparison.{Comparison}
use Rattle.predicate.specs.declared.tree.Operand.{Operand}
use Rattle.predicate.specs.declared.tree.Operand.TheVariants as operand
use Rattle.predicate.specs.declared.tree.Pred.{Pred}
use Rattle.predicate.specs.declared.tree.Pred.TheOpen.{Pred-F}
use Rattle.predicate.specs.declared.tree.Pred.TheFolds.{fold-roll-Pred}
use Rattle.predicate.specs.declared.tree.Pred.TheVariants.{And, Or, Not, Compare, Like, rolls-And, rolls-Or, rolls-Not, rolls-Compare, rolls-Like}
use Rattle.predicate.specs.Truth.{HasColumn, are_one_type, is_text_like, is_true, is_true_over, is_typed, is_typed_over, operand_type, says, value_in}
use Rattle.rpt_base.specs.Values.{order_of}

-- one of the images passes where one of the members does
any-map : {X Y : Type 0} (p : X → Bool) (f : Y → X) (ys : List Y) → list_any p (map f ys) ≡ list_any (λ y. p (f y)) ys
any-map p f [] = refl
any-map p f (y ∷ ys) = ap (λ b. p (f y) || b) (any-map p f ys)

module _ (row : List Value) where
  pub is_true-And : (parts : List Pred) → is_true (And parts) row ≡ list_all (λ p. is_true p row) parts
  is_true-And parts =
      ap (λ p. is_true p row) (sym (rolls-And parts)) ∙ fold-roll-Pred Bool (is_true_over row) (Pred-F.And parts) ∙ list_all-map (λ b. b) (λ p. is_true p row) parts

  pub is_true-Or : (parts : List Pred) → is_true (Or parts) row ≡ list_any (λ p. is_true p row) parts
  is_true-Or parts =
      ap (λ p. is_true p row) (sym (rolls-Or parts)) ∙ fold-roll-Pred Bool (is_true_over row) (Pred-F.Or parts) ∙ any-map (λ b. b) (λ p. is_true p row) parts

  pub is_true-Not : (part : Pred) → is_true (Not part) row ≡ not (is_true part row)
  is_true-Not part = ap (λ p. is_true p row) (sym (rolls-Not part)) ∙ fold-roll-Pred Bool (is_true_over row) (Pred-F.Not part)

  pub is_true-Compare : (o : Comparison) (left right : Operand) → is_true (Compare o left right) row ≡ says o (order_of (value_in row left) (value_in row right))
  is_true-Compare o left right = ap (λ p. is_true p row) (sym (rolls-Compare o left right)) ∙ fold-roll-Pred Bool (is_true_over row) (Pred-F.Compare o left right)

  pub is_true-Like : (left : Operand) (pattern : List ℕ) → is_true (Like left pattern) row ≡ is_text_like pattern (value_in row left)
  is_true-Like left pattern = ap (λ p. is_true p row) (sym (rolls-Like left pattern)) ∙ fold-roll-Pred Bool (is_true_over row) (Pred-F.Like left pattern)

module _ (kinds : List ColumnType) where
  pub is_typed-And : (parts : List Pred) → is_typed kinds (And parts) ≡ list_all (is_typed kinds) parts
  is_typed-And parts =
      ap (is_typed kinds) (sym (rolls-And parts)) ∙ fold-roll-Pred Bool (is_typed_over kinds) (Pred-F.And parts) ∙ list_all-map (λ b. b) (is_typed kinds) parts

  pub is_typed-Or : (parts : List Pred) → is_typed kinds (Or parts) ≡ list_all (is_typed kinds) parts
  is_typed-Or parts =
      ap (is_typed kinds) (sym (rolls-Or parts)) ∙ fold-roll-Pred Bool (is_typed_over kinds) (Pred-F.Or parts) ∙ list_all-map (λ b. b) (is_typed kinds) parts

  pub is_typed-Not : (part : Pred) → is_typed kinds (Not part) ≡ is_typed kinds part
  is_typed-Not part = ap (is_typed kinds) (sym (rolls-Not part)) ∙ fold-roll-Pred Bool (is_typed_over kinds) (Pred-F.Not part)

  pub is_typed-Compare : (o : Comparison) (left right : Operand) → is_typed kinds (Compare o left right) ≡ are_one_type (operand_type kinds left) (operand_type kinds right)
  is_typed-Compare o left right = ap (is_typed kinds) (sym (rolls-Compare o left right)) ∙ fold-roll-Pred Bool (is_typed_over kinds) (Pred-F.Compare o left right)

  pub is_typed-Like : (left : Operand) (pattern : List ℕ) → is_typed kinds (Like left pattern) ≡ are_one_type (operand_type kinds left) (Some kind.Text)
  is_typed-Like left pattern = ap (is_typed kinds) (sym (rolls-Like left pattern)) ∙ fold-roll-Pred Bool (is_typed_over kinds) (Pred-F.Like left pattern)

  -- what has a type has its column
  has_column : (o : Operand) (k : ColumnType) → operand_type kinds o ≡ Some k → HasColumn kinds o
  has_column (operand.Column column) k e = slice_get_within kinds column k e
  has_column (operand.Literal v) k e = tt

  typed_left : (s t : Option ColumnType) → IsTrue (are_one_type s t) → (k : ColumnType) × (s ≡ Some k)
  typed_left (Some kind.Int) t h = (kind.Int, refl)
  typed_left (Some kind.Text) t h = (kind.Text, refl)
  typed_left None t h = cc

  typed_right : (s t : Option ColumnType) → IsTrue (are_one_type s t) → (k : ColumnType) × (t ≡ Some k)
  typed_right s (Some k) h = (k, refl)
  typed_right (Some kind.Int) None h = cc
  typed_right (Some kind.Text) None h = cc
  typed_right None None h = cc

  pub has_column-left : (o : Comparison) (left right : Operand) → IsTrue (is_typed kinds (Compare o left right)) → HasColumn kinds left
  has_column-left o left right h =
      let e = typed_left (operand_type kinds left) (operand_type kinds right) (sym (is_typed-Compare o left right) ∙ h) in
      has_column left e.0 e.1

  pub has_column-right : (o : Comparison) (left right : Operand) → IsTrue (is_typed kinds (Compare o left right)) → HasColumn kinds right
  has_column-right o left right h =
      let e = typed_right (operand_type kinds left) (operand_type kinds right) (sym (is_typed-Compare o left right) ∙ h) in
      has_column right e.0 e.1

  pub has_column-like : (left : Operand) (pattern : List ℕ) → IsTrue (is_typed kinds (Like left pattern)) → HasColumn kinds left
  has_column-like left pattern h =
      let e = typed_left (operand_type kinds left) (Some kind.Text) (sym (is_typed-Like left pattern) ∙ h) in
      has_column left e.0 e.1
