-- What is read keeps to its limits.
use Rattle.std.proofs.Common.{◌≡◌, subst, refl, arith, ℕ, List, [], ◌∷◌}
use Rattle.std.specs.Prelude.{Bool, true, not, ◌&&◌, ◌||◌, ◌==◌, ◌%◌, nat_le, Option, None, Some, IsSome, Result, Ok, Err, IfOk, codes, bytes_eq, if◌then◌else◌}
use Rattle.std.specs.Option.{IfSome, option_and_then, unwrap_or}
use Rattle.std.proofs.lemmas.Bool.{and_parts, cond_both, eqb-true, leb-true}
use Rattle.std.proofs.lemmas.Option.{same_Some}
use Rattle.rpt_base.specs.declared.filters.FilterKind.{FilterKind}
use Rattle.rpt_base.specs.declared.limits.TheConstants.{MAX_MORSEL, MAX_WORKERS, MIN_MORSEL}
use Rattle.rpt_base.specs.Limits.{AreWorkers, IsMorsel}
use Rattle.command_words.specs.declared.settings.Settings.{Settings}
use Rattle.command_words.specs.declared.words.Command.{Command}
use Rattle.command_words.specs.declared.words.Mode.{Mode}
use Rattle.command_words.specs.declared.words.Mode.TheVariants as mode
use Rattle.command_words.specs.declared.errors.WordsError.{WordsError}
use Rattle.command_words.specs.Words.{begins_with_dash, command_with, filter_of, GivesCommand, is_script, IsWithinLimits, may_have, morsel_of, no_settings, number_of, passing, sample_number, set_filter, set_morsel, set_once, set_order, set_workers, settings_behind, takes_force, with_option, workers_of}

-- the settings that are there keep to their limits
record AreWithin (s : Settings) : Type 0 where
  workers : IfSome s.workers AreWorkers
  morsel : IfSome s.morsel IsMorsel

passing-is : (test : ℕ → Bool) (P : ℕ → Type 0) → ((n : ℕ) → test n ≡ true → P n) → (o : Option ℕ) → IfSome (passing test o) P
passing-is test P means None = tt
passing-is test P means (Some n) = cond_both (test n) (Some n) None (λ o. IfSome o P) (means n) (λ _. tt)

are-workers : (n : ℕ) → nat_le 1 n && nat_le n MAX_WORKERS ≡ true → AreWorkers n
are-workers n is =
    let both = and_parts (nat_le 1 n) (nat_le n MAX_WORKERS) is in
    record { some = leb-true 1 n both.0; most = leb-true n MAX_WORKERS both.1 }

is-morsel : (n : ℕ) → nat_le MIN_MORSEL n && (nat_le n MAX_MORSEL && (n % MIN_MORSEL) == 0) ≡ true → IsMorsel n
is-morsel n is =
    let low = and_parts (nat_le MIN_MORSEL n) (nat_le n MAX_MORSEL && (n % MIN_MORSEL) == 0) is in
    let high = and_parts (nat_le n MAX_MORSEL) ((n % MIN_MORSEL) == 0) low.1 in
    record { some = leb-true MIN_MORSEL n low.0; most = leb-true n MAX_MORSEL high.0; whole = eqb-true (n % MIN_MORSEL) 0 high.1 }

workers-within : (word : List ℕ) → IfSome (workers_of word) AreWorkers
workers-within word = passing-is _ AreWorkers are-workers (number_of 5 word)

morsel-within : (word : List ℕ) → IfSome (morsel_of word) IsMorsel
morsel-within word = passing-is _ IsMorsel is-morsel (number_of 5 word)

set_once-is : {X : Type 0} (P : Settings → Type 0) (now : Option X) (set : X → Settings) (value : Option X) → IfSome value (λ x. P (set x)) → IfSome (set_once now set value) P
set_once-is P None set None is = tt
set_once-is P None set (Some x) is = is
set_once-is P (Some old) set value is = tt

-- what is always so of a value
always : {X : Type 0} (P : X → Type 0) (o : Option X) → ((x : X) → P x) → IfSome o P
always P None each = tt
always P (Some x) each = each x

also : {X : Type 0} (P Q : X → Type 0) (o : Option X) → IfSome o P → ((x : X) → P x → Q x) → IfSome o Q
also P Q None is each = tt
also P Q (Some x) is each = each x is

-- what is so of one choice and of the other
chosen : {X : Type 0} (P : X → Type 0) (b : Bool) (x y : Option X) → IfSome x P → IfSome y P → IfSome (if b then x else y) P
chosen P b x y one other = cond_both b x y (λ o. IfSome o P) (λ _. one) (λ _. other)

-- an option that is taken keeps to its limits
filter-kept : (s : Settings) (value : List ℕ) → AreWithin s → IfSome (set_filter s value) AreWithin
filter-kept s value within =
    let set : FilterKind → Settings = λ kind. record s { filter = Some kind } in
    set_once-is AreWithin s.filter set (filter_of value) (always (λ kind. AreWithin (set kind)) (filter_of value) (λ _. record { workers = within.workers; morsel = within.morsel }))

workers-kept : (s : Settings) (value : List ℕ) → AreWithin s → IfSome (set_workers s value) AreWithin
workers-kept s value within =
    let set : ℕ → Settings = λ n. record s { workers = Some n } in
    set_once-is AreWithin s.workers set (workers_of value)
    (also AreWorkers (λ n. AreWithin (set n)) (workers_of value) (workers-within value) (λ _ are. record { workers = are; morsel = within.morsel }))

morsel-kept : (s : Settings) (value : List ℕ) → AreWithin s → IfSome (set_morsel s value) AreWithin
morsel-kept s value within =
    let set : ℕ → Settings = λ n. record s { morsel = Some n } in
    set_once-is AreWithin s.morsel set (morsel_of value)
    (also IsMorsel (λ n. AreWithin (set n)) (morsel_of value) (morsel-within value) (λ _ is. record { workers = within.workers; morsel = is }))

order-kept : (s : Settings) (value : List ℕ) → AreWithin s → IfSome (set_order s value) AreWithin
order-kept s value within =
    let set : List ℕ → Settings = λ list. record s { order = Some list } in
    let is : AreWithin (set value) = record { workers = within.workers; morsel = within.morsel } in set_once-is AreWithin s.order set (Some value) is

option-within : (s : Settings) (option value : List ℕ) → AreWithin s → IfSome (with_option s option value) AreWithin
unfolding with_option
option-within s option value within =
    chosen AreWithin (begins_with_dash value) None _ tt
    (chosen AreWithin (bytes_eq option (codes "--filter")) (set_filter s value) _ (filter-kept s value within)
    (chosen AreWithin (bytes_eq option (codes "--workers")) (set_workers s value) _ (workers-kept s value within)
    (chosen AreWithin (bytes_eq option (codes "--morsel")) (set_morsel s value) _ (morsel-kept s value within)
    (chosen AreWithin (bytes_eq option (codes "--order")) (set_order s value) None (order-kept s value within) tt))))

then-is : {X : Type 0} (P : X → Type 0) (f : X → Option X) (o : Option X) → IfSome o P → ((x : X) → P x → IfSome (f x) P) → IfSome (option_and_then f o) P
then-is P f None is each = tt
then-is P f (Some x) is each = each x is

-- and so do the settings that all words say
settings-within : (s : Settings) (words : List (List ℕ)) → AreWithin s → IfSome (settings_behind s words) AreWithin
unfolding settings_behind
settings-within s [] within = within
settings-within s (word ∷ []) within = chosen AreWithin (takes_force s word) (Some (record s { force = true })) None (record { workers = within.workers; morsel = within.morsel }) tt
settings-within s (word ∷ value ∷ words) within =
    chosen AreWithin (takes_force s word) (settings_behind (record s { force = true }) (value ∷ words)) _
    (settings-within (record s { force = true }) (value ∷ words) (record { workers = within.workers; morsel = within.morsel }))
    (then-is AreWithin (λ more. settings_behind more words) (with_option s word value) (option-within s word value within) (λ more is. settings-within more words is))

default-is : {X : Type 0} (P : X → Type 0) (o : Option X) (default : X) → P default → IfSome o P → P (unwrap_or o default)
default-is P None default is given = is
default-is P (Some x) default is given = given

sample-number : (asked : Mode) (script : List ℕ) → is_script asked script ≡ true → asked ≡ mode.Sample → IsSome (sample_number script)
sample-number asked script is here = let P : Mode → Type 0 = λ m. is_script m script ≡ true in subst P here is

-- a command of settings that were read keeps to its limits
command-within : (asked : Mode) (script folder : List ℕ) (s : Settings) → may_have asked script folder ≡ true → AreWithin s → IsWithinLimits (command_with asked script folder s)
command-within asked script folder s may within =
    record {
      workers = default-is AreWorkers s.workers 4 (record { some = omega arith; most = omega arith }) within.workers;
      morsel = default-is IsMorsel s.morsel 1024 (record { some = omega arith; most = omega arith; whole = refl }) within.morsel;
      number = sample-number asked script (and_parts (not (begins_with_dash script || begins_with_dash folder)) (is_script asked script) may).1;
    }

-- and so does what is given
pub given-within : (asked : Mode) (script folder : List ℕ) (s : Settings) (words : List (List ℕ)) (r : Result Command WordsError) → may_have asked script folder ≡ true
    → settings_behind no_settings words ≡ Some s → GivesCommand (Some (command_with asked script folder s)) r → IfOk r IsWithinLimits
given-within asked script folder s words (Err e) may said gives = tt
given-within asked script folder s words (Ok command) may said gives =
    let read : AreWithin s = let P : Option Settings → Type 0 = λ o. IfSome o AreWithin in subst P said (settings-within no_settings words (record { workers = tt; morsel = tt })) in
    let P : Command → Type 0 = λ c. IsWithinLimits c in
    subst P (same_Some _ _ gives) (command-within asked script folder s may read)
