use Rattle.std.proofs.Common.{◌∙◌}
use Rattle.sql_grammar.proofs.Words.{words_are}
use Rattle.sql_grammar.proofs.kinds.kind_of_word.Goals as goal

pub returns : goal.returns
returns c = c.kind_among.ensures ∙ words_are c.args.word.now
