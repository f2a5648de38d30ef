-- What a writer of CSV text has written.
-- Words of this crate's own contracts.
use Rattle.std.specs.Prelude.{◌≡◌, ℕ, ◌++◌, List, [], ◌∷◌, OnOk, Result, Some, false, Vec}
use Rattle.csv.specs.Records.{Row, fields_of, partial_of}
use Rattle.csv.specs.Writing.{default_writer, fields_written, has_written, text_written, writer_setup}
use Rattle.csv.specs.declared.writer.Writer.{Writer}

-- it has written this text in the default form, and is between two records
pub record HasWritten {Z : Type 0} (w : Writer (Vec ℕ Z)) (text : List ℕ) : Type 0 where
  pub setup : writer_setup w ≡ default_writer
  pub between : fields_written w ≡ 0
  pub clean : has_written w ≡ false
  pub written : text_written (λ v. Some v.items) w ≡ Some text

-- where it is written at all, this text is written behind what was written before
abbrev pub WritesMore : {Z A E : Type 0} → Result A E → Writer (Vec ℕ Z) → Writer (Vec ℕ Z) → List ℕ → Type 0
WritesMore result old new more = (text : List ℕ) → HasWritten old text → OnOk result (HasWritten new (text ++ more))

-- a record that ended with a whole field has this one behind it
abbrev pub PutsField : Row → Row → List ℕ → Type 0
PutsField old new field = partial_of old ≡ [] → fields_of new ≡ fields_of old ++ field ∷ []
