-- When a call on the outside may fail, and what it leaves.
use Rattle.std.specs.Prelude.{◌≡◌, ℕ, ◌+◌, ◌-◌, ◌^◌, ◌≤◌, min, Bool, false, List, ◌++◌, Option, None, Some, ⊤, Result, OnOk, OnErr}
use Rattle.std.specs.Io.KnownBytes.{Appends}

-- a count of faults rose, or stands at its last value
abbrev pub Rose : ℕ → ℕ → Type 0
Rose before now = min (before + 1) (2 ^ 64 - 1) ≤ now

-- no name's count fell
abbrev pub NeverFalls : (List ℕ → ℕ) → (List ℕ → ℕ) → Type 0
NeverFalls before now = (name : List ℕ) → before name ≤ now name

-- what was taken grew by a prefix of this piece, where it is told
pub record AppendsPart (old new : Option (List ℕ)) (piece : List ℕ) : Type 0 where
  pub part : List ℕ
  pub rest : List ℕ
  pub split : piece ≡ part ++ rest
  pub appended : Appends old new part

-- On `Ok` a sink took the whole piece. Else it took a prefix, and its count of faults rose.
pub record Puts {T E : Type 0} (old new : Option (List ℕ)) (before now : ℕ) (piece : List ℕ) (result : Result T E) : Type 0 where
  pub whole : OnOk result (Appends old new piece)
  pub part : OnErr result (AppendsPart old new piece)
  pub failed : OnErr result (Rose before now)
  pub later : before ≤ now

-- these are the contents of a file, where they are told
abbrev pub Tells : Option (List ℕ) → List ℕ → Type 0
Tells None bytes = ⊤
Tells (Some contents) bytes = bytes ≡ contents

-- a file that isn't missing has these contents, where they are told
pub record HasContents (missing : Bool) (told : Option (List ℕ)) (bytes : List ℕ) : Type 0 where
  pub there : missing ≡ false
  pub contents : Tells told bytes
