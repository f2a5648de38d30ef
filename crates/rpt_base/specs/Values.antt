-- How two values stand. There are three ways for them to be equal, each with a name of its own: as a condition says it, as the keys of a
-- join are, and as the same value. Today the three agree.
use Rattle.std.specs.Prelude.{◌==◌, ◌&&◌, Bool, true, false, List, [], ◌∷◌}
use Rattle.std.specs.declared.cmp.Ordering.{Ordering}
use Rattle.std.specs.declared.cmp.Ordering.TheVariants.{Less, Greater}
use Rattle.std.specs.Ordering.{int_cmp, int_eq, is_eq, nat_cmp}
use Rattle.std.specs.Cmp.Lexicographic.{pointwise, slice_cmp}
use Rattle.rpt_base.specs.declared.values.Value.{Value}
use Rattle.rpt_base.specs.declared.values.Value.TheVariants as value

-- how two values stand: numbers by value, texts by their bytes, a number before a text
abbrev pub order_of : Value → Value → Ordering
order_of (value.Int a) (value.Int b) = int_cmp a b
order_of (value.Int a) (value.Text b) = Less
order_of (value.Text a) (value.Int b) = Greater
order_of (value.Text a) (value.Text b) = slice_cmp nat_cmp a b

-- two values are equal as a condition says it
abbrev pub are_equal : Value → Value → Bool
are_equal v w = is_eq (order_of v w)

-- two values are the same: numbers by value, texts by their bytes
abbrev pub is_same : Value → Value → Bool
is_same (value.Int a) (value.Int b) = int_eq a b
is_same (value.Int a) (value.Text b) = false
is_same (value.Text a) (value.Int b) = false
is_same (value.Text a) (value.Text b) = pointwise ◌==◌ a b

-- two keys are equal: they have as many values, and each is the same as the other's
abbrev pub is_same_key : List Value → List Value → Bool
is_same_key [] [] = true
is_same_key [] (w ∷ ws) = false
is_same_key (v ∷ vs) [] = false
is_same_key (v ∷ vs) (w ∷ ws) = is_same v w && is_same_key vs ws
