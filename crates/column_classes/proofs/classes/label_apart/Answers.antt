use Rattle.std.proofs.Common.{rules}
use Rattle.column_classes.proofs.LabelFacts.{own-none}
use Rattle.column_classes.proofs.classes.label_apart.Goals as goal

pub relations-init : goal.relations-init
relations-init c = rw c.new-places.ensures.items (own-none c.args.widths.now)

pub returns : goal.returns
returns c = search rules depth 1
