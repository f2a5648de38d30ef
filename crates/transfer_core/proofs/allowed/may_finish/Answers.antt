use Rattle.std.proofs.Common.{◌↔◌, IsTrue, true≢false, ap, arith, subst, sym, ℕ, List, length}
use Rattle.std.proofs.lemmas.Grind.{common_steps}
use Rattle.transfer_core.specs.Plans.{shape_of}
use Rattle.transfer_core.specs.States.{ArePut, actor_of, core_of}
use Rattle.transfer_core.specs.declared.known.Known.{Known}
use Rattle.transfer_core.specs.declared.plan.Pipe.{Pipe}
use Rattle.std.proofs.lemmas.List.{length-map}
use Rattle.transfer_core.proofs.AllowedFacts.{allows_finish, at_slice, held_is, pipe_in, read_places}
use Rattle.transfer_core.proofs.PlainFacts.{lawful_shape}
use Rattle.transfer_core.proofs.allowed.may_finish.Goals as goal
use Rattle.transfer_core.proofs.allowed.may_finish.Goals.{then-actor-actors-via-then-actor-actors, then-actor-actors-via-else-actor-actors+then-pipe-pipes}

pub are_put-requires-clause-places : goal.are_put-requires-clause-places
are_put-requires-clause-places g c =
    let s = shape_of g.P.Placement.seen c.args.plan.now in let x = c.index-pipes-pipe.result in
    let pat = at_slice s.pipes c.as_slice-pipes.result.now c.args.pipe x c.as_slice-pipes.ensures (omega (arith, c.if-pipe-pipes.false)) c.index-pipes-pipe.is in
    read_places s c.requires.valid c.args.pipe x pat

pub returns-then-actor-actors : goal.returns-then-actor-actors
returns-then-actor-actors g c =
    let s = shape_of g.P.Placement.seen c.args.plan.now in let L = lawful_shape g.P.Placement.seen g.met.P.Placement.lawful c.args.plan.now in let state = c.args.state.now in (
      (λ t. absurd (true≢false (sym t))),
      (λ t. absurd (elim c.then-actor-actors.branch [
        | then-actor-actors-via-then-actor-actors w ↦ omega (arith, t.0, length-map state.actors.items actor_of, ap (λ (l : List Known). length l) c.as_slice-actors.ensures.value, w.if-actor-actors.true)
        | then-actor-actors-via-else-actor-actors+then-pipe-pipes w ↦ omega (arith, pipe_in s c.requires.valid L (core_of state) c.requires.of.sound c.args.actor c.args.pipe t.1.0 t.0 t.1.1, ap (λ (l : List Pipe). length l) c.as_slice-pipes.ensures, w.if-pipe-pipes.true)
      ])),
    )

pub returns : goal.returns
returns g c =
    let s = shape_of g.P.Placement.seen c.args.plan.now in
    let k = c.index-actors-actor.result in let x = c.index-pipes-pipe.result in
    let at = at_slice c.args.state.now.actors.items c.as_slice-actors.result.now c.args.actor k c.as_slice-actors.ensures.value (omega (arith, c.if-actor-actors.false)) c.index-actors-actor.is in
    let pat = at_slice s.pipes c.as_slice-pipes.result.now c.args.pipe x c.as_slice-pipes.ensures (omega (arith, c.if-pipe-pipes.false)) c.index-pipes-pipe.is in
    let both = allows_finish s c.args.state.now c.args.actor c.args.pipe k x at pat c.requires.valid (lawful_shape g.P.Placement.seen g.met.P.Placement.lawful c.args.plan.now) c.requires.of c.in-Some.held.1
    (held_is k.held c.in-Some.held c.args.pipe c.in-Some.is c.if-held-pipe.false) in
    let is = subst (λ (l : List (ℕ × ℕ)). IsTrue c.are_put.result ↔ ArePut s c.args.state.now.words x l c.in-Some.held.1) c.as_slice.ensures.value c.are_put.ensures in
    ((λ t. both.0 (is.0 t)), (λ t. is.1 (both.1 t)))

pub returns-then-held-pipe : goal.returns-then-held-pipe
returns-then-held-pipe c = grind (arith, common_steps)

pub returns-in_default : goal.returns-in_default
returns-in_default c = grind (arith, common_steps)

pub are_put-requires-clause-sized : goal.are_put-requires-clause-sized
are_put-requires-clause-sized c = grind (arith, common_steps)
