use Rattle.std.proofs.Common.{arith}
use Rattle.std.proofs.lemmas.Grind.{common_steps}
use Rattle.sql_grammar.proofs.kinds.kind_among.Goals as goal

pub loop-words-preserved : goal.loop-words-preserved
loop-words-preserved c = grind (arith, common_steps)
