-- The tables of a sample, held as the files of a folder.
use Rattle.std.proofs.Common.{◌≡◌, refl, ap, subst, ◌∙◌, Vec, ℕ, suc, ◌+◌, List, [], ◌∷◌, ◌++◌, append_assoc, length, Bool, true, false, map, not, arith}
use Rattle.std.specs.Prelude.{Option, Some, bytes_eq, if◌then◌else◌}
use Rattle.std.specs.Option.{unwrap_or}
use Rattle.command_words.specs.declared.words.Command.{Command}
use Rattle.command_words.specs.Words.{sample_number}
use Rattle.rpt_outside.specs.Held.{bytes_at, held_bytes, place}
use Rattle.rpt_outside.specs.Seen.{FilesSeen}
use Rattle.rpt_cli.specs.Command.{bytes_course, number_of, query_course, sample_course}
use Rattle.rpt_cli.specs.Course.{Reply, Course, Gives}
use Rattle.key_codes.specs.Hashes.{fnv}
use Rattle.rpt_cli.specs.Sample.{file_bytes, hash_line, size_line, size_lines}
use Rattle.rpt_cli.specs.Tables.{table_file}
use Rattle.rpt_cli.proofs.Courses.{over-Gives, unfailing}
use Rattle.sample_gen.specs.Script.{sample_script}
use Rattle.sample_gen.specs.Tables.{sample_tables}

-- a file's name and bytes
abbrev pub named_file : {Z : Type 0} → Vec ℕ Z × Vec ℕ Z → List ℕ × List ℕ
named_file file = (file.0.items, file.1.items)

-- a table as a file of the folder
abbrev pub file_of : List ℕ → List ℕ × List ℕ → List ℕ × List ℕ
file_of folder table = (table_file folder table.0, table.1)

-- the bytes of a name among files that are those of some tables
pub held-file_bytes : {Z : Type 0} (files : List (Vec ℕ Z × Vec ℕ Z)) (folder : List ℕ) (tables : List (List ℕ × List ℕ)) (name : List ℕ)
    → map named_file files ≡ map (file_of folder) tables → held_bytes files name ≡ file_bytes folder tables name
held-file_bytes [] folder [] name same = refl
held-file_bytes [] folder (table ∷ tables) name same = absurd (cc)
held-file_bytes (file ∷ files) folder [] name same = absurd (cc)
held-file_bytes (file ∷ files) folder (table ∷ tables) name same =
    let head : named_file file ≡ file_of folder table = cc in
    let named : file.0.items ≡ table_file folder table.0 = ap (λ (p : List ℕ × List ℕ). p.0) head in
    let text : file.1.items ≡ table.1 = ap (λ (p : List ℕ × List ℕ). p.1) head in
    let rest : map named_file files ≡ map (file_of folder) tables = cc in
    by (bytes_eq file.0.items name) (bytes_eq (table_file folder table.0) name) (ap (λ (n : List ℕ). bytes_eq n name) named) text (held-file_bytes files folder tables name rest)
  where
    by : (here there : Bool) → here ≡ there → file.1.items ≡ table.1 → held_bytes files name ≡ file_bytes folder tables name
        → bytes_at (file ∷ files) (if not here then 1 + place files name else 0) ≡ (if there then table.1 else file_bytes folder tables name)
    by true true e text more = text
    by false false e text more = let next : 1 + place files name ≡ suc (place files name) = omega arith in ap (bytes_at (file ∷ files)) next ∙ more
    by true false e text more = absurd (cc)
    by false true e text more = absurd (cc)

-- the number that was read from a command's script is that of its sample
pub number-said : (command : Command) (script : List ℕ) (read : Option ℕ) (number : ℕ) → number ≡ unwrap_or read 0 → read ≡ sample_number script → script ≡ command.script → number ≡ number_of command
number-said command script read number is reads same = is ∙ ap (λ (o : Option ℕ). unwrap_or o 0) (reads ∙ ap sample_number same)

-- what a sample's script gives over its tables, held as files, is its course's
pub sample-Gives : (command : Command) {number : ℕ} {tables : List (List ℕ × List ℕ)} {script : List ℕ} {contents : List ℕ → Option (List ℕ)}
    → number ≡ number_of command → tables ≡ sample_tables number → script ≡ sample_script → contents ≡ (λ name. Some (file_bytes command.folder tables name))
    → (reply : Reply) → Gives (unfailing contents) (bytes_course script (query_course command)) reply
    → (files : FilesSeen) → Gives files (sample_course command) reply
sample-Gives command {number = number} {tables = tables} {script = script} {contents = contents} same_number same_tables same_script same_contents reply gives files =
    let held : List ℕ → List ℕ = file_bytes command.folder (sample_tables (number_of command)) in
    let course : List ℕ → Course = λ bytes. bytes_course bytes (query_course command) in
    let all : tables ≡ sample_tables (number_of command) = same_tables ∙ ap sample_tables same_number in
    let over = subst (λ (f : List ℕ → Option (List ℕ)). Gives (unfailing f) (course script) reply) (same_contents ∙ (λ i name. Some (file_bytes command.folder (all i) name))) gives in
    over-Gives held files (course sample_script) reply
    (subst (λ (bytes : List ℕ). Gives (unfailing (λ name. Some (held name))) (course bytes) reply) same_script over)

-- the lines of a text's size and its hash, one after the other
pub sizes-put : (before between after text : List ℕ) (hash : ℕ) → between ≡ before ++ size_line (length text) → after ≡ between ++ hash_line hash → hash ≡ fnv text
    → after ≡ before ++ size_lines text
unfolding size_lines
sizes-put before between after text hash size line same =
    line ∙ (λ i. size i ++ hash_line (same i)) ∙ append_assoc before (size_line (length text)) (hash_line (fnv text))
