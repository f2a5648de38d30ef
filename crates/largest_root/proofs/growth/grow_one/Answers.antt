use Rattle.std.proofs.Common.{rules}
use Rattle.largest_root.proofs.growth.grow_one.Goals as goal

pub returns : goal.returns
returns c = search rules depth 1
