use Rattle.std.proofs.Common.{◌≡◌, ℕ}
use Rattle.join_graph.specs.JoinList.{set_of}
use Rattle.safe_subjoin.specs.SafeOrder.{first_of}
use Rattle.safe_subjoin.proofs.orders.prefix_set.Given as goal

abbrev pub invariant-loop-i : goal.invariant-loop-i
invariant-loop-i l = (q : ℕ) → set_of l.set q ≡ first_of l.order l.i q
