use Rattle.transfer_plan.specs.Passing.{seen_edges, shape}
use Rattle.transfer_plan.specs.TransferPlan.{is_keyed}
use Rattle.transfer_plan.proofs.KeptRows.{kept_exactly, kept_of_plan, tells}
use Rattle.transfer_plan.proofs.Placed.{tree_shape}
use Rattle.transfer_plan.proofs.laws.keeps_backward.Goals as goal

pub returns : goal.returns
returns g c t made = let seen = g.P.Placement.seen in record {
  tells = λ r less. tells (shape seen t) t.root t.links (is_keyed t.edges) t.items (seen_edges seen t) (tree_shape seen t made) r less;
  last = λ r less. kept_of_plan (shape seen t) t.root t.links (is_keyed t.edges) t.items (seen_edges seen t) (tree_shape seen t made) r less;
  kept = λ r i less inside. kept_exactly (shape seen t) t.root t.links (is_keyed t.edges) t.items (seen_edges seen t) (tree_shape seen t made) r less i inside;
}
