-- That the order of a plan has each relation once.
use Rattle.std.proofs.Common.{ℕ, List}
use Rattle.std.specs.Prelude.{IfSome, None, Option, Some}
use Rattle.join_graph.specs.declared.tree.Tree.{Tree}
use Rattle.join_graph.specs.JoinList.{HasParents}
use Rattle.rpt_base.specs.Orders.{IsOrder}
use Rattle.rpt_engine.specs.Planned.{order_or}
use Rattle.rpt_engine.proofs.SequenceFacts.{sequence-order}

-- the order that is given is one, and so is a tree's own list
pub plan-order : (n : ℕ) (order : Option (List ℕ)) (tree : Tree) → IfSome order (λ (o : List ℕ). IsOrder n o) → HasParents n tree.root tree.links → IsOrder n (order_or order tree)
plan-order n None tree given parents = sequence-order n tree.root tree.links parents
plan-order n (Some order) tree given parents = given
