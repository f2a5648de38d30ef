-- That a query is planned in one way.
use Rattle.std.proofs.Common.{◌≡◌, ◌∙◌, ap, sym, subst, ℕ, List}
use Rattle.std.specs.Prelude.{Option}
use Rattle.largest_root.proofs.OneList.{one-tree}
use Rattle.safe_subjoin.specs.SafeOrder.{AreListsOfPrefixes}
use Rattle.safe_subjoin.proofs.OneList.{one-lists}
use Rattle.rpt_engine.specs.Planned.{IsPlan, order_or}
use Rattle.rpt_engine.specs.declared.planning.Plan.{Plan}

-- a plan is the only one
pub one-plan : (sets : List (List ℕ)) (sizes : List ℕ) (order : Option (List ℕ)) (a b : Plan) → IsPlan sets sizes order a → IsPlan sets sizes order b → b ≡ a
one-plan sets sizes order a b p q =
    let tree : b.tree ≡ a.tree = one-tree sets sizes b.tree a.tree q.tree p.tree in
    let listed : b.order ≡ a.order = q.order_is ∙ ap (order_or order) tree ∙ sym p.order_is in
    let lists : b.lists ≡ a.lists = one-lists sets a.order b.lists a.lists (subst (λ (o : List ℕ). AreListsOfPrefixes sets o b.lists) listed q.lists) p.lists in
    λ i. record { tree = tree i; order = listed i; lists = lists i }
