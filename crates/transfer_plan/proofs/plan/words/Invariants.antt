use Rattle.std.proofs.Common.{◌≡◌, map, take}
use Rattle.transfer_plan.specs.TransferPlan.{words_of_region}
use Rattle.transfer_plan.proofs.plan.words.Given as goal

abbrev pub invariant-loop-region : goal.invariant-loop-region
invariant-loop-region g l = l.words.items ≡ map (words_of_region l.links l.items l.edges) (take l.region-index l.regions)
