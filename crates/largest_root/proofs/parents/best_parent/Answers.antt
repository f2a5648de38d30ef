use Rattle.std.proofs.Common.{refl, arith}
use Rattle.largest_root.proofs.ListedFacts.{listed-root}
use Rattle.largest_root.proofs.parents.best_parent.Goals as goal

pub loop-parent-init : goal.loop-parent-init
loop-parent-init c = record { known = c.requires.root; shown = listed-root c.args.root c.args.root c.args.links.now refl; best = λ j h k. absurd (omega arith) }
