use Rattle.std.proofs.Common.{◌≡◌, ◌↔◌, ◌∙◌, Bool, arith, subst, sym, true}
use Rattle.std.proofs.lemmas.Grind.{common_steps}
use Rattle.transfer_core.specs.Steps.{IsAllowed}
use Rattle.transfer_core.specs.Plans.{shape_of}
use Rattle.transfer_core.specs.States.{are_writers_marked, core_of}
use Rattle.transfer_core.specs.declared.steps.Step.TheVariants as step
use Rattle.transfer_core.proofs.AllowedFacts.{allows_draw, at_slice}
use Rattle.transfer_core.proofs.allowed.may_draw.Goals as goal

pub returns-then-is_free : goal.returns-then-is_free
returns-then-is_free g c =
    let s = shape_of g.P.Placement.seen c.args.plan.now in
    let k = c.index-actors-actor.result in let x = c.index-pipes-pipe.result in
    let at = at_slice c.args.state.now.actors.items c.as_slice-actors.result.now c.args.actor k c.as_slice-actors.ensures.value (omega (arith, c.if-actor-actors.false)) c.index-actors-actor.is in
    let pat = at_slice s.pipes c.as_slice-pipes.result.now c.args.pipe x c.as_slice-pipes.ensures (omega (arith, c.if-pipe-pipes.false)) c.index-pipes-pipe.is in
    let both = allows_draw s c.args.state.now c.args.actor c.args.pipe k x at pat (c.is_free.ensures.0 c.if-is_free.true) in
    let is = c.has_seen_all.ensures ∙ λ i. are_writers_marked k.seen.items (c.as_slice-pipes.ensures i) (c.as_slice.ensures i) in
    subst (λ (b : Bool). (b ≡ true) ↔ IsAllowed s (core_of c.args.state.now) (step.Draw c.args.actor c.args.pipe)) (sym is) both

pub returns-else-is_free : goal.returns-else-is_free
returns-else-is_free c = grind (arith, common_steps)

pub returns-then-actor-actors : goal.returns-then-actor-actors
returns-then-actor-actors c = grind (arith, common_steps)
