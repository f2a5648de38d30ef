use Rattle.std.proofs.Common.{◌<◌, length}
use Rattle.std.proofs.lemmas.List.Elements.{All-same}
use Rattle.transfer_plan.proofs.Serves.{members_within, reversed_within}
use Rattle.transfer_plan.proofs.pipes.pipes.Goals as goal

pub add_upward-requires-clause-within : goal.add_upward-requires-clause-within
add_upward-requires-clause-within c = All-same (λ r. r < length c.args.layout.now.items.now) _ _ c.requires.upward (reversed_within _ _ _ c.requires.layout.parents)

pub add_downward-requires-clause-within : goal.add_downward-requires-clause-within
add_downward-requires-clause-within c = All-same (λ r. r < length c.args.layout.now.items.now) _ _ c.requires.downward (members_within _ _ _ c.requires.layout.parents)
