use Rattle.std.proofs.Common.{rules}
use Rattle.largest_root.proofs.roots.largest.Goals as goal

pub loop-relation-preserved : goal.loop-relation-preserved
loop-relation-preserved c = search rules depth 1
