use Rattle.std.proofs.Common.{◌≡◌, ◌++◌, length, map}
use Rattle.rpt_cli.specs.Orders.{pieces_of, relation_named}
use Rattle.rpt_cli.proofs.orders.relations_named.Given as goal

abbrev pub invariant-pieces : goal.invariant-pieces
invariant-pieces l = map (relation_named l.bound.query) (pieces_of l.text) ≡ l.order.items ++ map (relation_named l.bound.query) (pieces_of l.rest)

abbrev pub decreases-pieces : goal.decreases-pieces
decreases-pieces l = length l.rest
