-- The values of fields and of records.
use Rattle.std.proofs.Common.{◌≡◌, ℕ, zero, suc, false, true, List, [], ◌∷◌, get_or, refl}
use Rattle.std.specs.Prelude.{Option, Some, None}
use Rattle.std.specs.Str.{IsUtf8, is_utf8}
use Rattle.std.proofs.lemmas.Bool.{false_from_ne_true}
use Rattle.std.proofs.lemmas.Str.{IsUtf8-from_is_utf8, is_utf8-from_IsUtf8}
use Rattle.csv.specs.Records.{field_at}
use Rattle.rpt_base.specs.declared.values.ColumnType.{ColumnType}
use Rattle.rpt_base.specs.declared.values.ColumnType.TheVariants as kind
use Rattle.rpt_base.specs.declared.values.Value.{Value}
use Rattle.rpt_base.specs.declared.values.Value.TheVariants as value
use Rattle.column_table.specs.Table.{OpenTable}
use Rattle.column_table.specs.FieldText.{field_value}
use Rattle.csv_load.specs.Loads.{Puts, PutsField}

-- a record has no bytes where it has no field
pub field-past : (fields : List (List ℕ)) (i : ℕ) → None ≡ field_at fields i → [] ≡ get_or fields i []
unfolding field_at
field-past [] i e = refl
field-past (f ∷ fields) zero e = cc
field-past (f ∷ fields) (suc i) e = field-past fields i e

-- a text that is UTF-8 is a value
pub text-value : (k : ColumnType) (field text : List ℕ) → k ≡ kind.Text → text ≡ field → IsUtf8 field → field_value k field ≡ Some (value.Text text)
text-value k field text e same h = rw (e, is_utf8-from_IsUtf8 field h, same) refl

-- and another is none
pub text-none : (k : ColumnType) (field : List ℕ) → k ≡ kind.Text → (IsUtf8 field → ⊥) → field_value k field ≡ None
text-none k field e h = let no_text : is_utf8 field ≡ false = false_from_ne_true _ (λ t. h (IsUtf8-from_is_utf8 field t)) in rw (e, no_text) refl

-- the value of a field was put
pub puts-some : (old new : OpenTable) {said : Option Value} (v : Value) → said ≡ Some v → Puts old new (v ∷ []) → PutsField said old new true
puts-some old new v e p = rw e (refl, p)

-- or it has none
pub puts-none : (old new : OpenTable) {said : Option Value} → said ≡ None → PutsField said old new false
puts-none old new e = rw e refl
