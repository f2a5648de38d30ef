use Rattle.std.proofs.Common.{refl, length}
use Rattle.rpt_engine.specs.Planned.{order_or}
use Rattle.rpt_engine.proofs.OnePlan.{one-plan}
use Rattle.rpt_engine.proofs.PlanFacts.{plan-order}
use Rattle.rpt_engine.proofs.laws.has_plan.Goals as goal

pub returns-clause-there : goal.returns-clause-there
returns-clause-there c = λ vs sizes order rising acyclic given.
    let tree = c.has_tree.ensures.there vs sizes rising acyclic in
    let listed = order_or order tree.0 in
    let lists = c.has_safe_lists.ensures.there vs listed rising (plan-order (length vs) order tree.0 given tree.1.joins.parents) in
    (record { tree = tree.0; order = listed; lists = lists.0 }, record { tree = tree.1; order_is = refl; lists = lists.1 })

pub returns-clause-one : goal.returns-clause-one
returns-clause-one c = λ vs sizes order a b is_a is_b. one-plan vs sizes order b a is_b is_a
