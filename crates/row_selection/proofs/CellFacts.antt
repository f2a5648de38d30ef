-- Equal cells show values that stand as equal.
use Rattle.std.proofs.Common.{◌≡◌, ◌∙◌, ap, sym, refl, ℕ, ◌<◌, [], Some, get_or, length}
use Rattle.std.specs.Prelude.{slice_get, option_and_then}
use Rattle.std.proofs.lemmas.Bool.Decides.{Decides-int_eq, same_from_decides}
use Rattle.std.proofs.lemmas.Map.Text.{is_eq-slice_cmp}
use Rattle.std.proofs.lemmas.Option.{get_or_from_slice_get, slice_get-get_or}
use Rattle.std.specs.Cmp.{int_ranks, ranked_equal}
use Rattle.std.specs.Ordering.{int_cmp, int_eq, is_eq}
use Rattle.rpt_base.specs.contracts.values.CellPartialEq.TheImpl as same
use Rattle.rpt_base.specs.declared.values.Cell.{Cell}
use Rattle.rpt_base.specs.declared.values.Cell.TheVariants as cell
use Rattle.rpt_base.specs.declared.values.Value.{Value}
use Rattle.column_table.specs.Table.{Rows, value_there, value_of}
use Rattle.rpt_base.specs.Values.{order_of}

pub same-cells : (a b : Cell) → same.ghosts.eq a b ≡ is_eq (order_of (value_of a) (value_of b))
same-cells (cell.Int a) (cell.Int b) = same_from_decides {P = a ≡ b} (int_eq a b) (is_eq (int_cmp a b)) (Decides-int_eq a b) (ranked_equal a b (int_cmp a b) (int_ranks a b))
same-cells (cell.Int a) (cell.Text b) = refl
same-cells (cell.Text a) (cell.Int b) = refl
same-cells (cell.Text a) (cell.Text b) = sym (is_eq-slice_cmp a.now b.now)

-- the value that is read in a row and a column
pub value-read : (t : Rows) (row column : ℕ) (v d : Value) → row < length t.rows → value_there t row column ≡ Some v → get_or (get_or t.rows row []) column d ≡ v
value-read t row column v d lt is =
    get_or_from_slice_get (get_or t.rows row []) column v d
    (sym (ap (option_and_then (λ values. slice_get values column)) (slice_get-get_or t.rows row [] lt)) ∙ is)
