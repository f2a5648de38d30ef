use Rattle.std.proofs.Common.{◌∙◌, sym, arith}
use Rattle.std.proofs.lemmas.Grind.{common_steps}
use Rattle.command_words.proofs.LimitFacts.{given-within}
use Rattle.command_words.proofs.words.read_words.Goals as goal

pub returns-clause-fits : goal.returns-clause-fits
returns-clause-fits c =
    given-within c.in-Some.mode c.as_str-script.result.now c.as_str-folder.result.now c.in_ok-settings.settings _ c.command_with.result (sym c.may_have.ensures ∙ c.if-not-may_have.false)
    c.in_ok-settings.ensures c.command_with.ensures

pub returns-clause-gives : goal.returns-clause-gives
returns-clause-gives c = grind (arith, common_steps)

pub returns-in_err-settings-clause-gives : goal.returns-in_err-settings-clause-gives
returns-in_err-settings-clause-gives c = grind (arith, common_steps)

pub returns-then-not-may_have-clause-gives : goal.returns-then-not-may_have-clause-gives
returns-then-not-may_have-clause-gives c = grind (arith, common_steps)
