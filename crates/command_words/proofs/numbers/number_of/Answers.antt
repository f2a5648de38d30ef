use Rattle.std.proofs.Common.{◌∙◌, sym}
use Rattle.command_words.proofs.NumberFacts.{read-number}
use Rattle.command_words.proofs.numbers.number_of.Goals as goal

pub returns : goal.returns
returns c = c.ok.ensures.value ∙ read-number c.args.most c.args.word.now c.parse.result (sym c.are_digits.ensures ∙ c.if-not-are_digits.false) c.parse.ensures.value.0
