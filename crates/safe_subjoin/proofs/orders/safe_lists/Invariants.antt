use Rattle.std.proofs.Common.{◌≡◌, ℕ, ◌+◌, ◌<◌, length, get_or, Option}
use Rattle.join_graph.specs.declared.tree.Tree.{Tree}
use Rattle.safe_subjoin.specs.SafeOrder.{IsListOf, first_of}
use Rattle.safe_subjoin.proofs.orders.safe_lists.Given as goal

abbrev pub invariant-loop-i : goal.invariant-loop-i
invariant-loop-i l = record {
  many : length l.lists.items ≡ l.i;
  each : (k : ℕ) (d : Option Tree) → k < length l.lists.items → IsListOf l.graph (first_of l.order (k + 1)) (get_or l.lists.items k d);
}
