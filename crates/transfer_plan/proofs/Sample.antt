-- The parts of a plan can be met: two relations, of two items and of three, by codes of the variables that both have.
use Rattle.std.proofs.Common.{◌≡◌, inr, ℕ, zero, suc, ◌<◌, List, [], ◌∷◌, map, get_or, true, refl, arith}
use Rattle.std.specs.Int.{div_ceil}
use Rattle.std.specs.List.{range_with_len}
use Rattle.join_graph.specs.declared.tree.Link.{Link}
use Rattle.join_graph.specs.JoinList.{HasParents}
use Rattle.rpt_base.specs.Lists.{has}
use Rattle.key_codes.specs.Placement.{Places}
use Rattle.key_codes.specs.Placement.Kind.{Exact}
use Rattle.transfer_core.specs.Plans.{no_places}
use Rattle.transfer_plan.specs.declared.plan.Edge.{Edge}
use Rattle.transfer_plan.specs.TransferPlan.{AreParts, ServesLink, no_edge, no_link, seen_edge}

abbrev coded : List ℕ → Places
coded numbers = record { kind = Exact; numbers = numbers; least = 1 }

abbrev links : List Link
links = record { child = 1; parent = 0 } ∷ []

abbrev edge : Edge Places
edge = record { child = coded (5 ∷ 4 ∷ 5 ∷ []); parent = coded (4 ∷ 6 ∷ []); forward_words = 1; backward_words = 1 }

abbrev rows : List Places
rows = coded (0 ∷ 1 ∷ []) ∷ coded (0 ∷ 1 ∷ 2 ∷ []) ∷ []

tree : HasParents 2 0 links
tree = record {
  first = omega arith;
  extends = (omega arith, refl, refl, tt);
  all = all;
}
  where
    all : (r : ℕ) → r < 2 → has r (1 ∷ 0 ∷ []) ≡ true
    all zero l = refl
    all (suc zero) l = refl
    all (suc (suc r)) l = absurd (omega arith)

pub sample : AreParts (λ (p : Places). p) (record { root = 0; links = links }) (2 ∷ 3 ∷ []) (edge ∷ []) rows 64
sample = record {
  few = omega arith;
  tree = tree;
  is_morsel = record { some = omega arith; most = omega arith; whole = refl };
  are_rows = record { count = refl; each = each };
  are_edges = record { count = inr refl; each = served };
}
  where
    each : (r : ℕ) → r < 2 → get_or rows r no_places ≡ record { kind = Exact; numbers = range_with_len 0 (get_or (2 ∷ 3 ∷ []) r 0); least = div_ceil (get_or (2 ∷ 3 ∷ []) r 0) 64 }
    each zero l = refl
    each (suc zero) l = refl
    each (suc (suc r)) l = absurd (omega arith)

    served : (k : ℕ) → k < 1 → ServesLink (2 ∷ 3 ∷ []) (get_or links k no_link) (get_or (map (seen_edge (λ (p : Places). p)) (edge ∷ [])) k no_edge)
    served zero l = record {
      child = refl;
      parent = refl;
      forward_some = omega arith;
      forward_child = omega arith;
      forward_parent = omega arith;
      backward_some = omega arith;
      backward_child = omega arith;
      backward_parent = omega arith;
    }
    served (suc k) l = absurd (omega arith)
