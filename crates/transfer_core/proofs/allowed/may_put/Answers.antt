use Rattle.std.proofs.Common.{◌≡◌, ◌<◌, ◌↔◌, ◌∙◌, Bool, ap, arith, subst, sym, ℕ, List, length, get_or, true}
use Rattle.std.proofs.lemmas.Grind.{common_steps}
use Rattle.transfer_core.specs.declared.plan.Port.{Port}
use Rattle.transfer_core.specs.Plans.{HasPlace, shape_of}
use Rattle.transfer_core.specs.Sealed.{passes}
use Rattle.transfer_core.specs.Steps.{IsAllowed}
use Rattle.transfer_core.specs.States.{core_of}
use Rattle.transfer_core.specs.declared.steps.Step.TheVariants as step
use Rattle.transfer_core.specs.Words.{regions_of}
use Rattle.transfer_core.proofs.AllowedFacts.{allows_put, at_slice, read_places}
use Rattle.transfer_core.proofs.PlainFacts.{lawful_shape}
use Rattle.transfer_core.proofs.allowed.may_put.Goals as goal

pub passes-requires-clause-places : goal.passes-requires-clause-places
passes-requires-clause-places g c =
    let s = shape_of g.P.Placement.seen c.args.plan.now in let x = c.index-pipes-pipe.result in
    let pat = at_slice s.pipes c.as_slice-pipes.result.now c.args.pipe x c.as_slice-pipes.ensures (omega (arith, c.if-pipe-pipes.false)) c.index-pipes-pipe.is in
    subst (λ (l : List Port). (k : ℕ) (d : Port) → k < length l → HasPlace s c.args.item (get_or l k d)) (sym c.as_slice-2.ensures) (read_places s c.requires.valid c.args.pipe x pat c.args.item (omega (arith, c.if-item-from.false)))

pub returns : goal.returns
returns g c =
    let s = shape_of g.P.Placement.seen c.args.plan.now in
    let k = c.index-actors-actor.result in let x = c.index-pipes-pipe.result in
    let at = at_slice c.args.state.now.actors.items c.as_slice-actors.result.now c.args.actor k c.as_slice-actors.ensures.value (omega (arith, c.if-actor-actors.false)) c.index-actors-actor.is in
    let pat = at_slice s.pipes c.as_slice-pipes.result.now c.args.pipe x c.as_slice-pipes.ensures (omega (arith, c.if-pipe-pipes.false)) c.index-pipes-pipe.is in
    let both = allows_put s c.args.state.now c.args.actor c.args.pipe k x at pat c.requires.valid (lawful_shape g.P.Placement.seen g.met.P.Placement.lawful c.args.plan.now) c.requires.of c.args.item c.args.port
    (c.holds.ensures.0 c.if-not-holds.false) (omega (arith, c.if-item-from.false)) (omega (arith, c.if-port-as_slice.false, ap (λ (l : List Port). length l) c.as_slice.ensures)) in
    let is = c.passes.ensures ∙ ap (λ (l : List Port). passes s (regions_of c.args.state.now.words) c.args.item l) c.as_slice-2.ensures in
    subst (λ (b : Bool). (b ≡ true) ↔ IsAllowed s (core_of c.args.state.now) (step.Put c.args.actor c.args.pipe c.args.item c.args.port)) (sym is) both

pub returns-then-not-holds : goal.returns-then-not-holds
returns-then-not-holds c = grind (arith, common_steps)

pub returns-then-actor-actors : goal.returns-then-actor-actors
returns-then-actor-actors c = grind (arith, common_steps)

pub passes-requires-clause-sized : goal.passes-requires-clause-sized
passes-requires-clause-sized c = grind (arith, common_steps)
