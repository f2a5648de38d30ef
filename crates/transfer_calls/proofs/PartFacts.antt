-- What runs of a tree's plan can tell.
use Rattle.std.proofs.Common.{◌≡◌, ap, subst, ℕ, ◌<◌, List, length}
use Rattle.std.specs.Prelude.{slice_index}
use Rattle.join_graph.specs.declared.tree.Tree.{Tree}
use Rattle.rpt_engine.specs.Places.{places_of}
use Rattle.rpt_engine.specs.declared.places.AnyPlace.{AnyPlace}
use Rattle.transfer_core.specs.Plans.{shape_of}
use Rattle.transfer_plan.specs.declared.plan.Edge.{Edge}
use Rattle.transfer_plan.specs.Kept.{CanTell, Written, item_count, sealed_run}
use Rattle.transfer_plan.specs.Passing.{IsMade, TreePlan, seen_edges, shape}
use Rattle.transfer_plan.specs.TransferPlan.{AreParts, is_keyed, transfer_plan}
use Rattle.transfer_plan.proofs.KeptRows.{kept_of_plan, tells}
use Rattle.transfer_plan.proofs.Placed.{tree_shape}

-- the parts as they were tested are those of the plan
module _ (tree : Tree) (items : List ℕ) (edges tested : List (Edge AnyPlace)) (rows seen : List AnyPlace) (morsel : ℕ)
    (same : tested ≡ edges) (alike : seen ≡ rows) (are : AreParts places_of tree items tested seen morsel) (r : ℕ) (less : r < length items) where
  abbrev t : TreePlan AnyPlace
  t = record { root = tree.root; links = tree.links; items = items; edges = edges; rows = rows; morsel = morsel }

  made : IsMade places_of t
  made = subst (λ (own : List AnyPlace). AreParts places_of tree items edges own morsel) alike
      (subst (λ (es : List (Edge AnyPlace)). AreParts places_of tree items es seen morsel) same are)

  pub part-tells : CanTell (sealed_run (shape_of places_of (transfer_plan tree items edges rows morsel))) r
  part-tells = tells (shape places_of t) t.root t.links (is_keyed edges) items (seen_edges places_of t) (tree_shape places_of t made) r less

  pub part-items : item_count (sealed_run (shape_of places_of (transfer_plan tree items edges rows morsel))) r ≡ slice_index items r
  part-items = ap (λ (w : Written). w.items)
      (kept_of_plan (shape places_of t) t.root t.links (is_keyed edges) items (seen_edges places_of t) (tree_shape places_of t made) r less)
