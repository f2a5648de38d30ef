use Rattle.std.proofs.Common.{arith}
use Rattle.std.proofs.lemmas.Grind.{common_steps}
use Rattle.rpt_base.proofs.texts.Str.from_bytes.Goals as goal

pub returns-in-Ok-from_text-clause-not_utf8 : goal.returns-in-Ok-from_text-clause-not_utf8
returns-in-Ok-from_text-clause-not_utf8 c = grind (arith, common_steps)
