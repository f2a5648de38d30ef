use Rattle.std.proofs.Common.{◌∙◌, ap, sym, Some, [], arith}
use Rattle.std.proofs.lemmas.Grind.{common_steps}
use Rattle.rpt_engine.proofs.AcceptedFacts.{accepted-allowed, lists-accepted}
use Rattle.rpt_engine.proofs.preparing.allow.Goals as goal

pub returns-clause-allowed : goal.returns-clause-allowed
returns-clause-allowed c =
    accepted-allowed c.args.prepared.now.graph c.as_slice.result.now c.args.order.now c.args.force (c.in-Some.is ∙ ap Some (sym c.as_slice.ensures)) c.if-force.false
    (lists-accepted c.args.prepared.now.graph c.as_slice.result.now (record { root = 0; links = [] }) c.in-Ok.lists.items c.in-Ok.ensures)

pub safe_order-requires-clause-order : goal.safe_order-requires-clause-order
safe_order-requires-clause-order c = grind (arith, common_steps)

pub returns-in-Err-Unsafe-clause-allowed : goal.returns-in-Err-Unsafe-clause-allowed
returns-in-Err-Unsafe-clause-allowed c = tt
