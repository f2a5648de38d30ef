use Rattle.std.proofs.Common.{◌≡◌, map, length}
use Rattle.std.specs.Prelude.{replicate}
use Rattle.transfer_core.specs.Actors.{idle}
use Rattle.transfer_core.specs.Plans.{shape_of}
use Rattle.transfer_core.specs.States.{HasRoomEach, actor_of}
use Rattle.transfer_core.proofs.state.all_idle.Given as goal

abbrev pub invariant-loop : goal.invariant-loop
invariant-loop g l = (map actor_of l.all.items ≡ replicate l.counter (idle (length l.plan.pipes))) × HasRoomEach (shape_of g.P.Placement.seen l.plan) l.all.items
