use Rattle.sql_lex.proofs.WordNames.{word_name}
use Rattle.sql_lex.proofs.laws.words_are_names.Goals as goal

pub returns : goal.returns
returns c = record { named = word_name }
