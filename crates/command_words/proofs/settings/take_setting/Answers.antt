use Rattle.std.proofs.Common.{◌∙◌, ap, sym, arith, get_or, []}
use Rattle.std.proofs.lemmas.Result.{err_from_is_err_and}
use Rattle.command_words.specs.Words.{takes_force, with_option, words_of}
use Rattle.command_words.proofs.SettingFacts.{behind-force, behind-last, behind-option, option-error, word-at, words-length}
use Rattle.command_words.proofs.settings.take_setting.Goals as goal

pub returns-then-takes_force : goal.returns-then-takes_force
returns-then-takes_force c =
    let some = words-length c.args.words.now in
    let first = word-at c.args.words.now 0 c.index-words-0.result (omega (arith, c.requires)) c.index-words-0.is ∙ sym c.as_str-word.ensures.value in
    (omega arith, omega (arith, some, c.requires), behind-force c.args.settings.now (words_of c.args.words.now) (omega (arith, some, c.requires)) (ap (takes_force c.args.settings.now) first ∙ sym c.takes_force.ensures ∙ c.if-takes_force.true))

pub returns-then-words-lt2 : goal.returns-then-words-lt2
returns-then-words-lt2 c =
    let some = words-length c.args.words.now in
    let first = word-at c.args.words.now 0 c.index-words-0.result (omega (arith, c.requires)) c.index-words-0.is ∙ sym c.as_str-word.ensures.value in
    behind-last c.args.settings.now (words_of c.args.words.now) (omega (arith, some, c.requires)) (omega (arith, some, c.if-words-lt2.true)) (ap (takes_force c.args.settings.now) first ∙ sym c.takes_force.ensures ∙ c.if-takes_force.false)

pub returns : goal.returns
returns c =
    let some = words-length c.args.words.now in
    let first = word-at c.args.words.now 0 c.index-words-0.result (omega (arith, c.requires)) c.index-words-0.is ∙ sym c.as_str-word.ensures.value in
    let second = word-at c.args.words.now 1 c.index-words-1.result (omega (arith, c.if-words-lt2.false)) c.index-words-1.is ∙ sym c.as_str.ensures.value in (
      omega arith,
      omega (arith, some, c.if-words-lt2.false),
      behind-option c.args.settings.now c.take_option.new.settings (words_of c.args.words.now) (omega (arith, some, c.if-words-lt2.false)) (ap (takes_force c.args.settings.now) first ∙ sym c.takes_force.ensures ∙ c.if-takes_force.false)
          (ap (λ w. with_option c.args.settings.now w (get_or (words_of c.args.words.now) 1 [])) first ∙ ap (with_option c.args.settings.now c.as_str-word.result.now) second ∙ c.in_ok-take_option.ensures),
    )

pub returns-in_err-take_option : goal.returns-in_err-take_option
returns-in_err-take_option c =
    let some = words-length c.args.words.now in
    let first = word-at c.args.words.now 0 c.index-words-0.result (omega (arith, c.requires)) c.index-words-0.is ∙ sym c.as_str-word.ensures.value in
    let second = word-at c.args.words.now 1 c.index-words-1.result (omega (arith, c.if-words-lt2.false)) c.index-words-1.is ∙ sym c.as_str.ensures.value in
    let p = err_from_is_err_and c.from_residual.result c.from_residual.ensures.1 in
    rw (p.1, p.2)
    (option-error c.args.settings.now c.take_option.new.settings (words_of c.args.words.now) c.in_err-take_option.field-0.0 (omega (arith, some, c.if-words-lt2.false)) (ap (takes_force c.args.settings.now) first ∙ sym c.takes_force.ensures ∙ c.if-takes_force.false)
    (ap (λ w. with_option c.args.settings.now w (get_or (words_of c.args.words.now) 1 [])) first ∙ ap (with_option c.args.settings.now c.as_str-word.result.now) second) c.in_err-take_option.ensures)
