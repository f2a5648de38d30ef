use Rattle.std.proofs.Common.{◌∙◌, ap, sym, arith}
use Rattle.std.proofs.lemmas.Grind.{common_steps}
use Rattle.std.proofs.lemmas.Result.{err_from_is_err_and}
use Rattle.command_words.specs.Words.{no_settings, settings_behind, words_of}
use Rattle.command_words.proofs.SettingFacts.{behind-all, taken-more, takes-error, words-from, words-length}
use Rattle.command_words.proofs.settings.read_settings.Goals as goal

pub loop-at-preserved : goal.loop-at-preserved
loop-at-preserved c =
    let more = taken-more c.args.words.now c.words_from.result.now c.loop-at.settings c.take_setting.new.settings c.loop-at.at c.in_ok-taken.taken c.loop-at.invariant.within c.words_from.ensures c.in_ok-taken.ensures c.loop-at.invariant.rest in
    record { within = more.0; rest = more.1 }

pub returns-in_err-taken : goal.returns-in_err-taken
returns-in_err-taken c =
    let p = err_from_is_err_and c.from_residual.result c.from_residual.ensures.1 in
    rw (p.1, p.2)
    (takes-error c.loop-at.settings c.take_setting.new.settings (words_of c.words_from.result.now) (settings_behind no_settings (words_of c.args.words.now)) c.in_err-taken.field-0.0
    (c.loop-at.invariant.rest ∙ ap (settings_behind c.loop-at.settings) (sym (ap (λ ws. words_of ws) c.words_from.ensures ∙ words-from c.args.words.now c.loop-at.at))) c.in_err-taken.ensures)

pub returns : goal.returns
returns c =
    let all = words-length c.args.words.now in
    c.loop-at.invariant.rest ∙ behind-all c.loop-at.settings (words_of c.args.words.now) c.loop-at.at (omega (arith, all, c.loop-at-test.false))

pub overflow_add-at : goal.overflow_add-at
overflow_add-at c = grind (arith, common_steps)
