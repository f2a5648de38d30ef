use Rattle.std.proofs.Common.{arith}
use Rattle.std.proofs.lemmas.Grind.{common_steps}
use Rattle.bloom_block.proofs.hashes.bloom_words.Goals as goal

pub returns : goal.returns
returns c = grind (arith, common_steps)
