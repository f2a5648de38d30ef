-- Words of this crate's own contracts: what the reading of options and flags gives.
-- Words of this crate's own contracts.
use Rattle.std.specs.Prelude.{◌≡◌, ℕ, ◌≤◌, List, drop, length, Result, Ok, Err, Option, Some, None}
use Rattle.command_words.specs.Words.{settings_behind}
use Rattle.command_words.specs.declared.settings.Settings.{Settings}
use Rattle.command_words.specs.declared.errors.WordsError.{WordsError}
use Rattle.command_words.specs.declared.errors.WordsError.TheVariants as words_error

-- the settings of words, or that they are none; or memory ran out
abbrev pub GivesSettings : Option Settings → Result Settings WordsError → Type 0
GivesSettings said (Ok settings) = said ≡ Some settings
GivesSettings said (Err words_error.Usage) = said ≡ None
GivesSettings said (Err words_error.Memory) = Unit {0}

-- the settings became those that are said, or there are none; or memory ran out
abbrev pub TakesOption : Option Settings → Settings → Result (Unit {0}) WordsError → Type 0
TakesOption said new (Ok done) = said ≡ Some new
TakesOption said new (Err words_error.Usage) = said ≡ None
TakesOption said new (Err words_error.Memory) = Unit {0}

-- some words were taken, and the rest says what all said; or they say nothing; or memory ran out
abbrev pub TakesSetting : Settings → Settings → List (List ℕ) → Result ℕ WordsError → Type 0
TakesSetting old new words (Ok n) =
    (1 ≤ n) × (n ≤ length words) × (settings_behind old words ≡ settings_behind new (drop n words))
TakesSetting old new words (Err words_error.Usage) = settings_behind old words ≡ None
TakesSetting old new words (Err words_error.Memory) = Unit {0}
