use Rattle.std.proofs.Common.{◌≡◌, ◌≤◌, ◌-◌, length}
use Rattle.std.specs.Prelude.{drop}
use Rattle.command_words.specs.Words.{no_settings, settings_behind, words_of}
use Rattle.command_words.proofs.settings.read_settings.Given as goal

abbrev pub invariant-loop-at : goal.invariant-loop-at
invariant-loop-at l =
    record {
      within : l.at ≤ length l.words;
      rest : settings_behind no_settings (words_of l.words) ≡ settings_behind l.settings (drop l.at (words_of l.words));
    }

abbrev pub decreases-loop-at : goal.decreases-loop-at
decreases-loop-at l = length l.words - l.at
