-- What the words behind a setting say.
use Rattle.std.proofs.Common.{◌≡◌, ◌∙◌, ap, ℕ, ◌+◌, ◌-◌, ◌<◌, ◌≤◌, List, [], ◌∷◌, length, drop, get_or, refl, sym, arith}
use Rattle.std.specs.Prelude.{true, false, Option, None, Some, Ok, Err, String, string_bytes}
use Rattle.std.proofs.lemmas.List.{drop-drop, drop-map, drop_all, length-drop, get_or-map, length-map}
use Rattle.command_words.specs.Steps.{GivesSettings, TakesOption, TakesSetting}
use Rattle.command_words.specs.declared.errors.WordsError.{WordsError}
use Rattle.command_words.specs.declared.errors.WordsError.TheVariants as words_error
use Rattle.command_words.specs.Words.{no_settings, settings_behind, takes_force, with_option, words_of}
use Rattle.command_words.specs.declared.settings.Settings.{Settings}

-- a word's bytes
pub word-at : {Z : Type 0} (words : List (String Z)) (i : ℕ) (w : String Z) → i < length words → w ≡ get_or words i w → get_or (words_of words) i [] ≡ string_bytes w
word-at words i w within here =
    get_or-map (λ (word : String _). string_bytes word) words i w [] within ∙ ap (λ (word : String _). string_bytes word) (sym here)

-- the words from a place on
pub words-from : {Z : Type 0} (words : List (String Z)) (n : ℕ) → words_of (drop n words) ≡ drop n (words_of words)
words-from words n = sym (drop-map (λ (word : String _). string_bytes word) n words)

pub words-length : {Z : Type 0} (words : List (String Z)) → length (words_of words) ≡ length words
words-length words = length-map words (λ (word : String _). string_bytes word)

-- a flag that is taken
pub behind-force : (s : Settings) (words : List (List ℕ)) → 1 ≤ length words → takes_force s (get_or words 0 []) ≡ true
    → settings_behind s words ≡ settings_behind (record s { force = true }) (drop 1 words)
unfolding settings_behind
behind-force s [] some takes = absurd (omega arith)
behind-force s (word ∷ []) some takes = rw takes refl
behind-force s (word ∷ value ∷ words) some takes = rw takes refl

-- an option that is taken with its value
pub behind-option : (s more : Settings) (words : List (List ℕ)) → 2 ≤ length words → takes_force s (get_or words 0 []) ≡ false
    → with_option s (get_or words 0 []) (get_or words 1 []) ≡ Some more → settings_behind s words ≡ settings_behind more (drop 2 words)
unfolding settings_behind
behind-option s more [] two force takes = absurd (omega arith)
behind-option s more (word ∷ []) two force takes = absurd (omega arith)
behind-option s more (word ∷ value ∷ words) two force takes = rw (force, takes) refl

-- a last word that isn't taken
pub behind-last : (s : Settings) (words : List (List ℕ)) → 1 ≤ length words → length words ≤ 1 → takes_force s (get_or words 0 []) ≡ false → settings_behind s words ≡ None
unfolding settings_behind
behind-last s [] some last force = absurd (omega arith)
behind-last s (word ∷ []) some last force = rw force refl
behind-last s (word ∷ value ∷ words) some last force = absurd (omega arith)

-- a word that isn't taken, nor with its value
pub behind-none : (s : Settings) (words : List (List ℕ)) → 2 ≤ length words → takes_force s (get_or words 0 []) ≡ false
    → with_option s (get_or words 0 []) (get_or words 1 []) ≡ None → settings_behind s words ≡ None
unfolding settings_behind
behind-none s [] two force takes = absurd (omega arith)
behind-none s (word ∷ []) two force takes = absurd (omega arith)
behind-none s (word ∷ value ∷ words) two force takes = rw (force, takes) refl

-- an error where words are taken is one of all words
pub takes-error : (old new : Settings) (words : List (List ℕ)) (said : Option Settings) (e : WordsError) → said ≡ settings_behind old words → TakesSetting old new words (Err e)
    → GivesSettings said (Err e)
takes-error old new words said words_error.Usage is none = is ∙ none
takes-error old new words said words_error.Memory is h = tt

-- an error where an option is taken is one of its words
pub option-error : (old new : Settings) (words : List (List ℕ)) {said : Option Settings} (e : WordsError) → 2 ≤ length words → takes_force old (get_or words 0 []) ≡ false
    → with_option old (get_or words 0 []) (get_or words 1 []) ≡ said → TakesOption said new (Err e) → TakesSetting old new words (Err e)
option-error old new words words_error.Usage two force is none = behind-none old words two force (is ∙ none)
option-error old new words words_error.Memory two force is h = tt

-- nothing is left to be read
pub behind-all : (s : Settings) (words : List (List ℕ)) (n : ℕ) → length words ≤ n → settings_behind s (drop n words) ≡ Some s
unfolding settings_behind
behind-all s words n all = ap (settings_behind s) (drop_all n words all)

-- some words more are taken
pub taken-more : {Z : Type 0} (words rest : List (String Z)) (old new : Settings) (at n : ℕ) → at ≤ length words → rest ≡ drop at words → TakesSetting old new (words_of rest) (Ok n)
    → settings_behind no_settings (words_of words) ≡ settings_behind old (drop at (words_of words))
    → (at + n ≤ length words) × (settings_behind no_settings (words_of words) ≡ settings_behind new (drop (at + n) (words_of words)))
taken-more words rest old new at n within is takes before =
    let from : words_of rest ≡ drop at (words_of words) = ap (λ (ws : List (String _)). words_of ws) is ∙ words-from words at in
    let long : length (words_of rest) ≡ length (words_of words) - at = ap (λ (ws : List (List ℕ)). length ws) from ∙ length-drop at (words_of words) in (
      omega (arith, words-length words, long, takes.1, within),
      before ∙ ap (settings_behind old) (sym from) ∙ takes.2 ∙ ap (λ (ws : List (List ℕ)). settings_behind new (drop n ws)) from
          ∙ ap (settings_behind new) (drop-drop n at (words_of words)),
    )
