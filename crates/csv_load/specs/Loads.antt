-- What the parts of loading answer.
-- Words of this crate's own contracts.
use Rattle.std.specs.Prelude.{◌≡◌, ◌++◌, ◌∷◌, [], Bool, true, false}
use Rattle.std.specs.Prelude.{List, Option, Some, None, Result, Ok, Err}
use Rattle.rpt_base.specs.declared.values.Value.{Value}
use Rattle.column_table.specs.Table.{OpenTable}
use Rattle.csv_load.specs.declared.errors.LoadError.{LoadError}
use Rattle.csv_load.specs.declared.errors.LoadError.TheVariants.{Memory}

-- a refusal is the one that is said; or memory ran out
abbrev pub Refuses : {X Y : Type 0} → Result X LoadError → Result Y LoadError → Type 0
Refuses said (Ok y) = Unit {0}
Refuses said (Err Memory) = Unit {0}
Refuses said (Err e) = said ≡ Err e

-- the values are put behind those of the started row
abbrev pub Puts : OpenTable → OpenTable → List Value → Type 0
Puts old new values = new ≡ record old { started = old.started ++ values }

-- the value of the field was put; or there is none
abbrev pub PutsField : Option Value → OpenTable → OpenTable → Bool → Type 0
PutsField (Some value) old new good = (good ≡ true) × Puts old new (value ∷ [])
PutsField None old new good = good ≡ false
