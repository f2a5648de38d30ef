use Rattle.std.proofs.Common.{◌≡◌, take}
use Rattle.transfer_plan.specs.Kept.{last_of, written_by}
use Rattle.transfer_pass.proofs.kept.kept_by.Given as goal

abbrev pub invariant-loop-port : goal.invariant-loop-port
invariant-loop-port l = l.kept ≡ last_of l.initial.kept (written_by l.places l.items (take l.port-index l.ports))
