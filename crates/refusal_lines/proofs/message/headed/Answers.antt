use Rattle.std.proofs.Common.{refl}
use Rattle.refusal_lines.proofs.message.headed.Goals as goal

pub returns : goal.returns
returns c = rw (c.bytes.ensures.bytes, c.bytes-2.ensures.bytes) refl
