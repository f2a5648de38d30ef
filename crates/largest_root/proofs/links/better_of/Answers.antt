use Rattle.std.proofs.Common.{◌≡◌, [], ◌∷◌, true, false, refl, arith}
use Rattle.std.proofs.lemmas.Grind.{common_steps}
use Rattle.join_graph.specs.JoinList.{listed_by, set_of}
use Rattle.rpt_base.specs.Lists.{has}
use Rattle.largest_root.proofs.BestFacts.{best-next}
use Rattle.largest_root.proofs.links.better_of.Goals as goal

pub returns-in-Some : goal.returns-in-Some
returns-in-Some c =
    let inside : set_of c.args.set c.args.child ≡ true = cc in
    let fresh : has c.args.child (listed_by (c.args.root ∷ []) c.args.links.now) ≡ false = cc in
    best-next c.args.graph.now c.args.sizes.now (set_of c.args.set) (listed_by (c.args.root ∷ []) c.args.links.now) c.args.child
    c.in-Some.earlier (record { child = c.args.child; parent = c.best_parent-parent.result }) c.better_link.result (rw c.in-Some.is at c.requires.best)
    (record { inside = c.requires.child; in_set = inside; fresh = fresh; known = c.best_parent-parent.ensures.known; shown = c.best_parent-parent.ensures.shown })
    refl c.best_parent-parent.ensures.best c.better_link.ensures.one c.better_link.ensures.of_a c.better_link.ensures.of_b

pub returns-then-not-is_in : goal.returns-then-not-is_in
returns-then-not-is_in c = grind (arith, common_steps)

pub better_link-requires-clause-a_parent : goal.better_link-requires-clause-a_parent
better_link-requires-clause-a_parent c = grind (arith, common_steps)

pub better_link-requires-clause-a_child : goal.better_link-requires-clause-a_child
better_link-requires-clause-a_child c = grind (arith, common_steps)

pub better_link-requires-clause-order : goal.better_link-requires-clause-order
better_link-requires-clause-order c = grind (arith, common_steps)
