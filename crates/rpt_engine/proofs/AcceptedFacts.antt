-- That an order with a join list for each prefix is accepted.
use Rattle.std.proofs.Common.{◌≡◌, ℕ, ◌+◌, ◌-◌, List, subst, get_or, arith}
use Rattle.join_graph.specs.declared.tree.Tree.{Tree}
use Rattle.join_graph.specs.SafeSet.{IsSafe}
use Rattle.safe_subjoin.specs.SafeOrder.{AreSafeLists, IsSafeList, first_of}
use Rattle.std.specs.Prelude.{Bool, true, false, Option, None, Some}
use Rattle.rpt_engine.specs.Prepared.{IsAccepted, IsAllowed}

pub lists-accepted : (vs : List (List ℕ)) (order : List ℕ) (d : Tree) (lists : List Tree) → AreSafeLists vs order lists → IsAccepted vs order
lists-accepted vs order d lists are k some within =
    let list : IsSafeList vs (first_of order (k - 1 + 1)) (get_or lists (k - 1) d) = are.each (k - 1) d (omega (arith, are.count)) in
    let safe : IsSafe vs (first_of order (k - 1 + 1)) = ((get_or lists (k - 1) d).root, (get_or lists (k - 1) d).links, list.joins, list.begins) in
    subst (λ (n : ℕ). IsSafe vs (first_of order n)) (omega arith) safe

-- and so is it where it is given and not forced
pub accepted-allowed : (vs : List (List ℕ)) (order : List ℕ) (given : Option (List ℕ)) (force : Bool) → given ≡ Some order → force ≡ false → IsAccepted vs order → IsAllowed vs given force
accepted-allowed vs order None force g f accepted = absurd (let no : None ≡ Some order = g in cc)
accepted-allowed vs order (Some other) true g f accepted = tt
accepted-allowed vs order (Some other) false g f accepted = (let same : order ≡ other = cc in subst (λ (o : List ℕ). IsAccepted vs o) same accepted)
