use Rattle.std.proofs.Common.{arith}
use Rattle.std.proofs.lemmas.Grind.{elements}
use Rattle.refusal_lines.proofs.message.ragged.Goals as goal

pub returns : goal.returns
returns c = grind (arith, elements)
