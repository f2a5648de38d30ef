-- The types of an operand and of values.
use Rattle.std.proofs.Common.{◌≡◌, ◌∙◌, ◌&&◌, not, List, [], ◌∷◌, map, refl, ap, sym}
use Rattle.std.specs.Prelude.{Option, None, Some, is_some}
use Rattle.std.specs.List.{list_all}
use Rattle.std.proofs.lemmas.Option.{none-some, same_Some}
use Rattle.rpt_base.specs.Lists.{all_of}
use Rattle.rpt_base.specs.declared.values.ColumnType.{ColumnType}
use Rattle.rpt_base.specs.declared.values.Value.{Value}
use Rattle.script_rules.specs.Violations.{differ, is_of_type, is_same_type}
use Rattle.column_table.specs.Table.{type_of_value}

-- none is missing
all_of-there : (values : List Value) → all_of (map (λ v. Some (type_of_value v)) values) ≡ Some (map type_of_value values)
all_of-there [] = refl
all_of-there (v ∷ values) = rw (all_of-there values) refl

same-map : (t : ColumnType) (values : List Value) → list_all (is_same_type t) (map type_of_value values) ≡ list_all (λ v. is_same_type t (type_of_value v)) values
same-map t [] = refl
same-map t (v ∷ values) = ap (λ b. is_same_type t (type_of_value v) && b) (same-map t values)

pub differ-values : (t : ColumnType) (values : List Value) → differ (all_of (Some t ∷ map (λ v. Some (type_of_value v)) values)) ≡ not (list_all (λ v. is_same_type t (type_of_value v)) values)
differ-values t values = rw (all_of-there values) (ap not (same-map t values))

known-step : (x : ColumnType) (types : List (Option ColumnType)) (o : Option (List ColumnType)) → all_of types ≡ o → list_all is_some types ≡ is_some (all_of types)
    → list_all is_some types ≡ is_some (all_of (Some x ∷ types))
known-step x types None e k = rw e (k ∙ ap is_some e)
known-step x types (Some xs) e k = rw e (k ∙ ap is_some e)

-- all are there where each is known
known : (types : List (Option ColumnType)) → list_all is_some types ≡ is_some (all_of types)
known [] = refl
known (None ∷ types) = refl
known (Some x ∷ types) = known-step x types (all_of types) refl (known types)

same-step : (t x : ColumnType) (types : List (Option ColumnType)) (xs : List ColumnType) (o : Option (List ColumnType)) → all_of types ≡ o → all_of (Some x ∷ types) ≡ Some xs
    → ((ys : List ColumnType) → all_of types ≡ Some ys → list_all (is_of_type t) types ≡ list_all (is_same_type t) ys)
    → (is_same_type t x && list_all (is_of_type t) types) ≡ list_all (is_same_type t) xs
same-step t x types xs None i e same =
    let there : all_of (Some x ∷ types) ≡ None = rw i refl in
    absurd (none-some _ (sym there ∙ e))
same-step t x types xs (Some ys) i e same =
    let there : all_of (Some x ∷ types) ≡ Some (x ∷ ys) = rw i refl in
    ap (λ b. is_same_type t x && b) (same ys i) ∙ ap (list_all (is_same_type t)) (same_Some _ _ (sym there ∙ e))

-- where all are there, they are of a type as they are known to be
same-known : (t : ColumnType) (types : List (Option ColumnType)) (xs : List ColumnType) → all_of types ≡ Some xs → list_all (is_of_type t) types ≡ list_all (is_same_type t) xs
same-known t [] xs e = ap (list_all (is_same_type t)) (same_Some _ _ e)
same-known t (None ∷ types) xs e = absurd (none-some _ e)
same-known t (Some x ∷ types) xs e = same-step t x types xs (all_of types) refl e (same-known t types)

differ-step : (t : ColumnType) (types : List (Option ColumnType)) (o : Option (List ColumnType)) → all_of types ≡ o
    → (list_all is_some types && not (list_all (is_of_type t) types)) ≡ differ (all_of (Some t ∷ types))
differ-step t types None e = rw e (ap (λ b. b && not (list_all (is_of_type t) types)) (known types ∙ ap is_some e))
differ-step t types (Some xs) e = rw e (ap (λ b. b && not (list_all (is_of_type t) types)) (known types ∙ ap is_some e) ∙ ap not (same-known t types xs e))

pub differ-types : (t : ColumnType) (types : List (Option ColumnType)) → (list_all is_some types && not (list_all (is_of_type t) types)) ≡ differ (all_of (Some t ∷ types))
differ-types t types = differ-step t types (all_of types) refl
