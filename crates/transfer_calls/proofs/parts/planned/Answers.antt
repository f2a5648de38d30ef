use Rattle.std.proofs.Common.{◌∙◌, ap, sym, subst, arith}
use Rattle.std.proofs.lemmas.Grind.{common_steps}
use Rattle.rpt_engine.specs.Places.{places_of}
use Rattle.rpt_engine.specs.declared.places.AnyPlace.{AnyPlace}
use Rattle.transfer_core.specs.declared.plan.Plan.{Plan}
use Rattle.transfer_core.specs.Plans.{shape_of}
use Rattle.transfer_plan.specs.Kept.{CanTell, item_count, sealed_run}
use Rattle.transfer_calls.proofs.PartFacts.{part-items, part-tells}
use Rattle.transfer_calls.proofs.parts.planned.Goals as goal

pub returns-clause-tells : goal.returns-clause-tells
returns-clause-tells c r less =
    subst (λ (p : Plan AnyPlace). CanTell (sealed_run (shape_of places_of p)) r) (sym c.in_ok-plan.ensures.plan)
    (part-tells c.args.tree.now c.args.items.now c.args.edges.items c.deref.result.now c.in_ok-rows.rows.items c.deref-2.result.now c.args.morsel
    c.deref.ensures.value c.deref-2.ensures.value c.in_ok-check_parts.ensures r less)

pub returns-clause-items : goal.returns-clause-items
returns-clause-items c r less =
    ap (λ (p : Plan AnyPlace). item_count (sealed_run (shape_of places_of p)) r) c.in_ok-plan.ensures.plan
    ∙ part-items c.args.tree.now c.args.items.now c.args.edges.items c.deref.result.now c.in_ok-rows.rows.items c.deref-2.result.now c.args.morsel
    c.deref.ensures.value c.deref-2.ensures.value c.in_ok-check_parts.ensures r less

pub plan_of-requires : goal.plan_of-requires
plan_of-requires c = grind (arith, common_steps)
