-- What a command makes of the files that it asks for, one after the other.
use Rattle.std.specs.Prelude.{◌≡◌, ◌⊎◌, ℕ, ◌+◌, ◌-◌, ◌^◌, ◌<◌, min, List, Result, Ok, Err, Option, Some, IfSome, MatchResult, ⊤}
use Rattle.rpt_outside.specs.Causes.{HasContents, Rose}
use Rattle.rpt_outside.specs.Seen.{FilesSeen}
use Rattle.rpt_cli.specs.Matters.{Found, IsFound, Matter}
use Rattle.refusal_lines.specs.declared.errors.Refusal.{Refusal}
use Rattle.refusal_lines.specs.declared.errors.Refusal.TheVariants.{ReadFault, Memory}

-- what the program says: a text, or why there is none
abbrev pub Reply : Type 0
Reply = Result (List ℕ) Refusal

-- A reply that stands; or a file to be read, and the course after its contents; or what has to be found out, and the course
-- after what is found, unless it is refused.
pub data Course : Type 0 where
  Ends : (reply : Reply) → Course
  Asks : (name : List ℕ) (next : List ℕ → Course) → Course
  Finds : (matter : Matter) (next : Found matter → Course) → Course

-- a refusal ends the course, and a value goes on
abbrev pub goes_on : {X : Type 0} → Result X Refusal → (X → Course) → Course
goes_on (Ok x) next = next x
goes_on (Err e) next = Ends (Err e)

-- this is found, or refused so, and nothing else
abbrev pub IsFoundAs : (matter : Matter) → Result (Found matter) Refusal → Type 0
IsFoundAs matter found =
    IsFound matter found × ((other : Result (Found matter) Refusal) → IsFound matter other → other ≡ found)

-- The course leads to this reply. Each file that it asks for is there and has the contents that are told of it, or some where none
-- are told; or reading it failed, and then the count of its name rose. What is found out is the one thing that can be found.
abbrev pub Leads : FilesSeen → Course → Reply → Type 0
Leads files (Ends end) reply = reply ≡ end
Leads files (Asks name next) reply =
    ((reply ≡ Err (ReadFault name)) × Rose (files.before name) (files.now name))
    ⊎ ((bytes : List ℕ) × HasContents (files.missing name) (files.told name) bytes × Leads files (next bytes) reply)
Leads files (Finds matter next) reply =
    (found : Result (Found matter) Refusal) × IsFoundAs matter found
    × MatchResult found (λ x. Leads files (next x) reply) (λ e. reply ≡ Err e)

-- it leads to this reply, or memory ran out
abbrev pub Gives : FilesSeen → Course → Reply → Type 0
Gives files course reply = (reply ≡ Err Memory) ⊎ Leads files course reply

-- the reply is the course's, where all that it asks for is told
abbrev pub IsOutcome : (List ℕ → Option (List ℕ)) → Course → Reply → Type 0
IsOutcome told (Ends end) reply = reply ≡ end
IsOutcome told (Asks name next) reply =
    (bytes : List ℕ) × (told name ≡ Some bytes) × IsOutcome told (next bytes) reply
IsOutcome told (Finds matter next) reply =
    (found : Result (Found matter) Refusal) × IsFound matter found
    × MatchResult found (λ x. IsOutcome told (next x) reply) (λ e. reply ≡ Err e)

-- all that the course asks for is told, and no count of a file of these has risen
abbrev pub NoneRose : FilesSeen → Course → Type 0
NoneRose files (Ends end) = ⊤
NoneRose files (Asks name next) =
    (files.now name < min (files.before name + 1) (2 ^ 64 - 1))
    × IfSome (files.told name) (λ bytes. NoneRose files (next bytes))
NoneRose files (Finds matter next) =
    (found : Result (Found matter) Refusal) × IsFound matter found
    × MatchResult found (λ x. NoneRose files (next x)) (λ e. ⊤)

-- The course over files that have these contents: it asks for none.
unfoldable pub over_files : (List ℕ → List ℕ) → Course → Course
over_files contents (Ends reply) = Ends reply
over_files contents (Asks name next) = over_files contents (next (contents name))
over_files contents (Finds matter next) = Finds matter (λ found. over_files contents (next found))
