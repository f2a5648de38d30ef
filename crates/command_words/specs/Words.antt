-- How the words of the command line are read.
use Rattle.std.specs.Prelude.{◌≡◌, ℕ, ◌%◌, ◌==◌, nat_le, Bool, true, false, not, ◌&&◌, ◌||◌, if◌then◌else◌}
use Rattle.std.specs.Prelude.{String, string_bytes, codes, bytes_eq, List, [], ◌∷◌, length, map}
use Rattle.std.specs.Prelude.{Result, Ok, Err, Option, None, Some, IsSome}
use Rattle.std.specs.Char.{is_ascii_digit}
use Rattle.std.specs.List.{list_all}
use Rattle.std.specs.Option.{is_some, option_and_then, unwrap_or}
use Rattle.std.specs.Str.Parse.{digits_value}
use Rattle.rpt_base.specs.declared.filters.FilterKind.{FilterKind}
use Rattle.rpt_base.specs.declared.filters.FilterKind.TheVariants as filter_kind
use Rattle.rpt_base.specs.declared.limits.TheConstants.{MAX_MORSEL, MAX_WORKERS, MIN_MORSEL}
use Rattle.rpt_base.specs.Limits.{AreWorkers, IsMorsel}
use Rattle.command_words.specs.declared.words.Command.{Command}
use Rattle.command_words.specs.declared.words.Mode.{Mode}
use Rattle.command_words.specs.declared.words.Mode.TheVariants as mode
use Rattle.command_words.specs.declared.settings.Settings.{Settings}
use Rattle.command_words.specs.declared.errors.WordsError.{WordsError}
use Rattle.command_words.specs.declared.errors.WordsError.TheVariants as words_error

-- the bytes of each word
abbrev pub words_of : {Z : Type 0} → List (String Z) → List (List ℕ)
words_of words = map (λ word. string_bytes word) words

-- the first byte is a dash
abbrev pub begins_with_dash : List ℕ → Bool
begins_with_dash [] = false
begins_with_dash (c ∷ word) = c == 45

-- the mode that a word says
abbrev pub mode_of : List ℕ → Option Mode
mode_of word =
    if bytes_eq word (codes "run") then Some mode.Run
    else if bytes_eq word (codes "explain") then Some mode.Explain
    else if bytes_eq word (codes "check") then Some mode.Check
    else if bytes_eq word (codes "sample") then Some mode.Sample
    else None

-- one to `most` ASCII digits
abbrev pub are_digits : ℕ → List ℕ → Bool
are_digits most word = nat_le 1 (length word) && (nat_le (length word) most && list_all is_ascii_digit word)

-- the number that one to `most` ASCII digits write, of 32 bits
unfoldable pub number_of : ℕ → List ℕ → Option ℕ
number_of most word =
    if are_digits most word && nat_le (digits_value 10 word) 4294967295 then Some (digits_value 10 word) else None

-- the number, if it passes the test
abbrev pub passing : (ℕ → Bool) → Option ℕ → Option ℕ
passing test None = None
passing test (Some n) = if test n then Some n else None

-- the filters that `--filter` names
abbrev pub filter_of : List ℕ → Option FilterKind
filter_of word =
    if bytes_eq word (codes "bloom") then Some filter_kind.Bloom
    else if bytes_eq word (codes "exact") then Some filter_kind.Exact
    else if bytes_eq word (codes "none") then Some filter_kind.Off
    else None

-- the number of workers that `--workers` says: 1 to 32
abbrev pub workers_of : List ℕ → Option ℕ
workers_of word = passing (λ n. nat_le 1 n && nat_le n MAX_WORKERS) (number_of 5 word)

-- the items of a morsel that `--morsel` says: a multiple of 64 from 64 to 65,536
abbrev pub morsel_of : List ℕ → Option ℕ
morsel_of word = passing (λ n. nat_le MIN_MORSEL n && (nat_le n MAX_MORSEL && (n % MIN_MORSEL) == 0)) (number_of 5 word)

-- the number that SCRIPT says in mode sample: at most 4,294,967,295
abbrev pub sample_number : List ℕ → Option ℕ
sample_number script = number_of 10 script

-- no option and no flag
abbrev pub no_settings : Settings
no_settings = record { filter = None; workers = None; morsel = None; order = None; force = false }

-- `--force` may stand here, and is taken
abbrev pub takes_force : Settings → List ℕ → Bool
takes_force s word = bytes_eq word (codes "--force") && not s.force

-- a setting that isn't there yet takes this value, if it is one
abbrev pub set_once : {X : Type 0} → Option X → (X → Settings) → Option X → Option Settings
set_once None set (Some value) = Some (set value)
set_once present set value = None

-- each option takes a value of its own kind
abbrev pub set_filter : Settings → List ℕ → Option Settings
set_filter s value = set_once s.filter (λ kind. record s { filter = Some kind }) (filter_of value)

abbrev pub set_workers : Settings → List ℕ → Option Settings
set_workers s value = set_once s.workers (λ n. record s { workers = Some n }) (workers_of value)

abbrev pub set_morsel : Settings → List ℕ → Option Settings
set_morsel s value = set_once s.morsel (λ n. record s { morsel = Some n }) (morsel_of value)

abbrev pub set_order : Settings → List ℕ → Option Settings
set_order s value = set_once s.order (λ list. record s { order = Some list }) (Some value)

-- an option and its value, where they may stand behind these settings
unfoldable pub with_option : Settings → List ℕ → List ℕ → Option Settings
with_option s option value =
    if begins_with_dash value then None
    else if bytes_eq option (codes "--filter") then set_filter s value
    else if bytes_eq option (codes "--workers") then set_workers s value
    else if bytes_eq option (codes "--morsel") then set_morsel s value
    else if bytes_eq option (codes "--order") then set_order s value
    else None

-- the options and flags in any order, each at most once, behind those that were read
unfoldable pub settings_behind : Settings → List (List ℕ) → Option Settings
settings_behind s [] = Some s
settings_behind s (word ∷ []) = if takes_force s word then Some (record s { force = true }) else None
settings_behind s (word ∷ value ∷ words) =
    if takes_force s word then settings_behind (record s { force = true }) (value ∷ words)
    else option_and_then (λ more. settings_behind more words) (with_option s word value)

-- in mode sample the script is a number
abbrev pub is_script : Mode → List ℕ → Bool
is_script mode.Sample script = is_some (sample_number script)
is_script asked script = true

-- a script and a folder that a mode may have; neither begins with a dash
abbrev pub may_have : Mode → List ℕ → List ℕ → Bool
may_have asked script folder = not (begins_with_dash script || begins_with_dash folder) && is_script asked script

-- a command of these parts; a setting that isn't there has its default
abbrev pub command_with : Mode → List ℕ → List ℕ → Settings → Command
command_with asked script folder s =
    record {
      mode = asked;
      script = script;
      folder = folder;
      filter = unwrap_or s.filter filter_kind.Exact;
      workers = unwrap_or s.workers 4;
      morsel = unwrap_or s.morsel 1024;
      order = s.order;
      force = s.force;
    }

-- a command of these parts, where there are a mode and settings
abbrev pub command_from : Option Mode → List ℕ → List ℕ → Option Settings → Option Command
command_from (Some asked) script folder (Some settings) =
    if may_have asked script folder then Some (command_with asked script folder settings) else None
command_from asked script folder settings = None

-- a mode, a script and a folder, and then options and flags; all else is no command
abbrev pub command_of : List (List ℕ) → Option Command
command_of (mode ∷ script ∷ folder ∷ words) = command_from (mode_of mode) script folder (settings_behind no_settings words)
command_of words = None

-- the words' command, or that they are none; or memory ran out
abbrev pub GivesCommand : Option Command → Result Command WordsError → Type 0
GivesCommand said (Ok command) = said ≡ Some command
GivesCommand said (Err words_error.Usage) = said ≡ None
GivesCommand said (Err words_error.Memory) = Unit {0}

-- the parts of a command that have limits keep to them
pub record IsWithinLimits (command : Command) : Type 0 where
  pub workers : AreWorkers command.workers
  pub morsel : IsMorsel command.morsel
  pub number : command.mode ≡ mode.Sample → IsSome (sample_number command.script)
