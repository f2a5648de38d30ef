use Rattle.std.proofs.Common.{arith}
use Rattle.std.proofs.lemmas.Grind.{common_steps}
use Rattle.exact_filter.proofs.exact.ExactPlacement.least_words.Goals as goal

pub returns : goal.returns
returns c = grind (arith, common_steps)
