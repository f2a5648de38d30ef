use Rattle.std.proofs.Common.{◌∙◌, arith, sym, eq-eqb}
use Rattle.std.proofs.lemmas.Grind.{get_or_default_zero, common_steps}
use Rattle.transfer_core.specs.Plans.{shape_of}
use Rattle.transfer_core.proofs.TakingFacts.{known_there, room_set, sees_full}
use Rattle.transfer_core.proofs.taking.see.Goals as goal

pub see-requires : goal.see-requires
see-requires g c =
    let s = shape_of g.P.Placement.seen c.args.plan.now in let state = c.args.state.now in let id = c.args.actor in let k = c.index_mut.result.now in let p = c.args.pipe in
    let at = known_there state id k c.requires.allowed.0 c.index_mut.ensures.value in
    omega (arith, (c.requires.of.room id k at).marks, c.requires.allowed.1)

pub returns-then-finished-morsels-clause-after : goal.returns-then-finished-morsels-clause-after
returns-then-finished-morsels-clause-after g c =
    let s = shape_of g.P.Placement.seen c.args.plan.now in let state = c.args.state.now in let id = c.args.actor in let k = c.index_mut.result.now in let p = c.args.pipe in
    let at = known_there state id k c.requires.allowed.0 c.index_mut.ensures.value in
    sees_full s state id k at p c.see.new.self
    (eq-eqb _ _ (sym (c.index-finished.ensures ∙ get_or_default_zero state.done.items p c.index-finished.result.now (omega (arith, c.requires.allowed.1, c.requires.of.sound.dones))) ∙ c.if-finished-morsels.true ∙ c.morsels.ensures))
    c.see.ensures.actor

pub returns-then-finished-morsels-clause-room : goal.returns-then-finished-morsels-clause-room
returns-then-finished-morsels-clause-room g c =
    let s = shape_of g.P.Placement.seen c.args.plan.now in let state = c.args.state.now in let id = c.args.actor in let k = c.index_mut.result.now in let p = c.args.pipe in
    let at = known_there state id k c.requires.allowed.0 c.index_mut.ensures.value in
    room_set s state.actors.items id c.see.new.self c.requires.of.room (c.see.ensures.room s (c.requires.of.room id k at))

pub index_mut-requires : goal.index_mut-requires
index_mut-requires c = grind (arith, common_steps)
