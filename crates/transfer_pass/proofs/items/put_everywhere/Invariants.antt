use Rattle.std.proofs.Common.{◌≡◌, ◌<◌, ℕ, All, true}
use Rattle.transfer_core.specs.Actors.{is_listed}
use Rattle.transfer_pass.specs.Work.{KeepsListed, with_puts}
use Rattle.transfer_pass.proofs.items.put_everywhere.Given as goal

abbrev pub invariant-loop-port : goal.invariant-loop-port
invariant-loop-port g l = record {
  same : l.hand ≡ with_puts l.hand.actor.puts l.initial.hand;
  keeps : KeepsListed l.initial.hand.actor.puts l.hand.actor.puts;
  listed : (q : ℕ) → q < l.port → All (λ i. is_listed i q l.hand.actor.puts ≡ true) l.items;
}
