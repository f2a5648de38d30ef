-- What contracts see of files, and of a sink, between two times.
use Rattle.std.specs.Prelude.{ℕ, Bool, List, Option}
use Rattle.rpt_outside.specs.declared.traits.Files.{Ghosts as FileWords}
use Rattle.rpt_outside.specs.declared.traits.Sink.{Ghosts as SinkWords}

-- which files are missing and what the others hold, where that is told, and each name's count of faults before and now
pub record FilesSeen : Type 0 where
  pub missing : List ℕ → Bool
  pub told : List ℕ → Option (List ℕ)
  pub before : List ℕ → ℕ
  pub now : List ℕ → ℕ

-- what is seen of files until their counts of faults are these
abbrev pub seen_until : {F : Type 0} → FileWords F → F → (List ℕ → ℕ) → FilesSeen
seen_until words files now =
    record { missing = words.is_missing files; told = words.contents files; before = words.faults files; now = now }

-- what is seen of files that were so before and are so now
abbrev pub seen : {F : Type 0} → FileWords F → F → F → FilesSeen
seen words old new = seen_until words old (words.faults new)

-- a sink, what it took in all, where that is told, and its count of faults: before and now
pub record SinkSeen (S : Type 0) : Type 0 where
  pub old : S
  pub new : S
  pub taken_before : Option (List ℕ)
  pub taken_now : Option (List ℕ)
  pub before : ℕ
  pub now : ℕ

-- what is seen of a sink that was so before and is so now
abbrev pub put_to : {S : Type 0} → SinkWords S → S → S → SinkSeen S
put_to words old new =
    record {
      old = old;
      new = new;
      taken_before = words.taken old;
      taken_now = words.taken new;
      before = words.faults old;
      now = words.faults new;
    }
