-- What reading a whole file may answer.
-- Words of this crate's own contracts.
use Rattle.std.specs.Prelude.{◌≡◌, ◌⊎◌, ℕ, ◌<◌, ◌≤◌, Bool, true, false, List, length, Option, Result, Ok, Err, Vec}
use Rattle.std.specs.Io.KnownBytes.{Consumes, IsAtEnd}
use Rattle.rpt_outside.specs.Causes.{HasContents, Rose}
use Rattle.rpt_outside.specs.Seen.{FilesSeen}
use Rattle.rpt_outside.specs.declared.errors.ReadError.{ReadError}
use Rattle.rpt_outside.specs.declared.errors.ReadError.TheVariants.{Failed, TooLarge, Memory}

-- The whole contents of a file that is there, within the limit; or a fault, where this name's count rose; or contents of more than
-- the limit; or want of memory, which may always be.
abbrev pub Reads : FilesSeen → ℕ → List ℕ → Result (List ℕ) ReadError → Type 0
Reads seen limit name (Ok bytes) = HasContents (seen.missing name) (seen.told name) bytes × (length bytes ≤ limit)
Reads seen limit name (Err Failed) = Rose (seen.before name) (seen.now name)
Reads seen limit name (Err TooLarge) =
    (bytes : List ℕ) × HasContents (seen.missing name) (seen.told name) bytes × (limit < length bytes)
Reads seen limit name (Err Memory) = Unit {0}

-- the file of this name is started, and some of its bytes are read
abbrev pub IsReadInPart : Option (List ℕ) → Option (List ℕ) → (List ℕ → Bool) → List ℕ → Type 0
IsReadInPart told left started name = (started name ≡ true) × ((read : List ℕ) × Consumes told left read)

-- the file of this name is started, these bytes are read, and none is left
pub record IsReadToEnd (told left : Option (List ℕ)) (started : List ℕ → Bool) (name bytes : List ℕ) : Type 0 where
  pub is_started : started name ≡ true
  pub read : Consumes told left bytes
  pub at_end : IsAtEnd left

-- The file whose bytes are given is read to its end. Else it is read in part, or its start failed and no file is started.
abbrev pub Leaves : Option (List ℕ) → Option (List ℕ) → (List ℕ → Bool) → List ℕ → Result (List ℕ) ReadError → Type 0
Leaves told left started name (Ok bytes) = IsReadToEnd told left started name bytes
Leaves told left started name (Err Failed) = IsReadInPart told left started name ⊎ ((other : List ℕ) → started other ≡ false)
Leaves told left started name (Err TooLarge) = IsReadInPart told left started name
Leaves told left started name (Err Memory) = IsReadInPart told left started name

-- a result, with the bytes of its `Vec` as a list
abbrev pub bytes_of : {Z E : Type 0} → Result (Vec ℕ Z) E → Result (List ℕ) E
bytes_of (Ok v) = Ok v.items
bytes_of (Err e) = Err e
