use Rattle.std.proofs.Common.{◌≡◌, ◌<◌, ℕ, [], false, get_or}
use Rattle.rpt_cli.specs.Orders.{is_name}
use Rattle.rpt_cli.proofs.orders.relation_named.Given as goal

abbrev pub invariant-loop-relation : goal.invariant-loop-relation
invariant-loop-relation l = (k : ℕ) → k < l.relation → is_name l.piece (get_or l.bound.query.aliases k []) ≡ false
