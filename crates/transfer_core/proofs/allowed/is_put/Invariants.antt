use Rattle.std.proofs.Common.{◌≡◌, ◌<◌, ℕ, true}
use Rattle.transfer_core.specs.Actors.{is_listed}
use Rattle.transfer_core.proofs.allowed.is_put.Given as goal

abbrev pub invariant-loop-port : goal.invariant-loop-port
invariant-loop-port g l = (q : ℕ) → q < l.port → is_listed l.item q l.puts ≡ true
