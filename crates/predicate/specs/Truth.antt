-- When a condition is true of a row.
use Rattle.std.specs.Prelude.{ℕ, ◌<◌, Bool, true, false, not, List, Option, Some, length, slice_get, slice_index_or}
use Rattle.std.specs.declared.cmp.Ordering.{Ordering}
use Rattle.std.specs.Ordering.{is_eq, is_ne, is_lt, is_le, is_gt, is_ge}
use Rattle.std.specs.List.{list_all, list_any}
use Rattle.std.specs.Str.{chars}
use Rattle.rpt_base.specs.declared.values.ColumnType.{ColumnType}
use Rattle.rpt_base.specs.declared.values.ColumnType.TheVariants as kind
use Rattle.rpt_base.specs.Values.{order_of}
use Rattle.rpt_base.specs.declared.values.Value.{Value}
use Rattle.rpt_base.specs.declared.values.Value.TheVariants as value
use Rattle.column_table.specs.Table.{no_value, type_of_value}
use Rattle.predicate.specs.declared.tree.Operand.{Operand}
use Rattle.predicate.specs.declared.tree.Operand.TheVariants as operand
use Rattle.rpt_base.specs.declared.comparisons.Comparison.{Comparison}
use Rattle.rpt_base.specs.declared.comparisons.Comparison.TheVariants as op
use Rattle.predicate.specs.declared.tree.Pred.{Pred}
use Rattle.predicate.specs.declared.tree.Pred.TheOpen.{Pred-F}
use Rattle.predicate.specs.declared.tree.Pred.TheFolds.{fold-Pred}
use Rattle.predicate.specs.Like.{is_like}

-- the type of an operand, if its column is one of the table's
abbrev pub operand_type : List ColumnType → Operand → Option ColumnType
operand_type kinds (operand.Column column) = slice_get kinds column
operand_type kinds (operand.Literal v) = Some (type_of_value v)

-- the column that an operand names is one of the table's
abbrev pub HasColumn : List ColumnType → Operand → Type 0
HasColumn kinds (operand.Column column) = column < length kinds
HasColumn kinds (operand.Literal v) = Unit {0}

-- both are there, and the same
abbrev pub are_one_type : Option ColumnType → Option ColumnType → Bool
are_one_type (Some kind.Int) (Some kind.Int) = true
are_one_type (Some kind.Text) (Some kind.Text) = true
are_one_type _ _ = false

-- whether a condition is typed, given which of its parts are
abbrev pub is_typed_over : List ColumnType → Pred-F Bool → Bool
is_typed_over kinds (Pred-F.And parts) = list_all (λ b. b) parts
is_typed_over kinds (Pred-F.Or parts) = list_all (λ b. b) parts
is_typed_over kinds (Pred-F.Not part) = part
is_typed_over kinds (Pred-F.Compare o left right) = are_one_type (operand_type kinds left) (operand_type kinds right)
is_typed_over kinds (Pred-F.Like left pattern) = are_one_type (operand_type kinds left) (Some kind.Text)

-- each column that is named is one of the table's, both sides of a comparison are of one type, and what is LIKE is a text
abbrev pub is_typed : List ColumnType → Pred → Bool
is_typed kinds = fold-Pred Bool (is_typed_over kinds)

-- the value of an operand in a row
abbrev pub value_in : List Value → Operand → Value
value_in row (operand.Column column) = slice_index_or row column no_value
value_in row (operand.Literal v) = v

-- what each comparison says of two values that stand so
abbrev pub says : Comparison → Ordering → Bool
says op.Eq = is_eq
says op.Ne = is_ne
says op.Lt = is_lt
says op.Le = is_le
says op.Gt = is_gt
says op.Ge = is_ge

-- a text is as a pattern says, character by character
abbrev pub is_text_like : List ℕ → Value → Bool
is_text_like pattern (value.Int z) = false
is_text_like pattern (value.Text text) = is_like (chars pattern) (chars text)

-- whether a condition is true of a row with these values, given which of its parts are
abbrev pub is_true_over : List Value → Pred-F Bool → Bool
is_true_over row (Pred-F.And parts) = list_all (λ b. b) parts
is_true_over row (Pred-F.Or parts) = list_any (λ b. b) parts
is_true_over row (Pred-F.Not part) = not part
is_true_over row (Pred-F.Compare o left right) = says o (order_of (value_in row left) (value_in row right))
is_true_over row (Pred-F.Like left pattern) = is_text_like pattern (value_in row left)

-- the condition is true of a row with these values
abbrev pub is_true : Pred → List Value → Bool
is_true p row = fold-Pred Bool (is_true_over row) p
