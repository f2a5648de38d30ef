use Rattle.std.proofs.Common.{◌∙◌, ap, arith}
use Rattle.std.proofs.lemmas.Grind.{get_or_default_zero, common_steps}
use Rattle.transfer_core.specs.Plans.{shape_of}
use Rattle.transfer_core.specs.States.{held_of}
use Rattle.transfer_core.proofs.PlainFacts.{lawful_shape}
use Rattle.transfer_core.proofs.TakingFacts.{finish_pipe, finishes_held, held_then, known_there, one_more, room_for_morsel, room_set}
use Rattle.transfer_core.proofs.taking.finish.Goals as goal

pub morsels-all-requires-clause-pipe : goal.morsels-all-requires-clause-pipe
morsels-all-requires-clause-pipe g c =
    let s = shape_of g.P.Placement.seen c.args.plan.now in let state = c.args.state.now in let id = c.args.actor in let p = c.args.pipe in
    finish_pipe s c.requires.valid (lawful_shape g.P.Placement.seen g.met.P.Placement.lawful c.args.plan.now) state c.requires.of id p c.requires.allowed

pub index-done-requires : goal.index-done-requires
index-done-requires g c =
    let s = shape_of g.P.Placement.seen c.args.plan.now in let state = c.args.state.now in let id = c.args.actor in let p = c.args.pipe in
    let less = finish_pipe s c.requires.valid (lawful_shape g.P.Placement.seen g.met.P.Placement.lawful c.args.plan.now) state c.requires.of id p c.requires.allowed in
    omega (arith, less, c.requires.of.sound.dones, state.done.ok.0)

pub overflow_add-done : goal.overflow_add-done
overflow_add-done g c =
    let s = shape_of g.P.Placement.seen c.args.plan.now in let state = c.args.state.now in let id = c.args.actor in let k = c.index.result.now in let p = c.args.pipe in
    let at = known_there state id k c.requires.allowed.0 c.index.ensures in
    let held = held_then s state id k at p c.requires.allowed.1.0 c.in-Some.held k at (ap held_of c.in-Some.is) c.requires.allowed.1.1 in
    let less = finish_pipe s c.requires.valid (lawful_shape g.P.Placement.seen g.met.P.Placement.lawful c.args.plan.now) state c.requires.of id p c.requires.allowed in
    omega (arith, one_more s state id k at c.requires.valid c.requires.of (lawful_shape g.P.Placement.seen g.met.P.Placement.lawful c.args.plan.now) p c.in-Some.held.1 less held, c.index-done.ensures, get_or_default_zero state.done.items p c.index-done.result.now (omega (arith, less, c.requires.of.sound.dones)), c.morsels-all.ensures, c.morsels-all.type_inv)

pub index_mut-requires : goal.index_mut-requires
index_mut-requires g c =
    let s = shape_of g.P.Placement.seen c.args.plan.now in let state = c.args.state.now in let id = c.args.actor in let p = c.args.pipe in
    let less = finish_pipe s c.requires.valid (lawful_shape g.P.Placement.seen g.met.P.Placement.lawful c.args.plan.now) state c.requires.of id p c.requires.allowed in
    omega (arith, less, c.requires.of.sound.dones, state.done.ok.0)

pub end-requires : goal.end-requires
end-requires g c =
    let s = shape_of g.P.Placement.seen c.args.plan.now in let state = c.args.state.now in let id = c.args.actor in let k = c.index_mut-2.result.now in let p = c.args.pipe in
    let at = known_there state id k c.requires.allowed.0 c.index_mut-2.ensures.value in
    let was = known_there state id c.index.result.now c.requires.allowed.0 c.index.ensures in
    let held = held_then s state id k at p c.requires.allowed.1.0 c.in-Some.held c.index.result.now was (ap held_of c.in-Some.is) c.requires.allowed.1.1 in
    room_for_morsel s state id k at c.requires.valid c.requires.of p c.in-Some.held.1 held

pub returns-clause-after : goal.returns-clause-after
returns-clause-after g c =
    let s = shape_of g.P.Placement.seen c.args.plan.now in let state = c.args.state.now in let id = c.args.actor in let k = c.index_mut-2.result.now in let p = c.args.pipe in
    let at = known_there state id k c.requires.allowed.0 c.index_mut-2.ensures.value in
    let was = known_there state id c.index.result.now c.requires.allowed.0 c.index.ensures in
    let held = held_then s state id k at p c.requires.allowed.1.0 c.in-Some.held c.index.result.now was (ap held_of c.in-Some.is) c.requires.allowed.1.1 in
    let less = finish_pipe s c.requires.valid (lawful_shape g.P.Placement.seen g.met.P.Placement.lawful c.args.plan.now) state c.requires.of id p c.requires.allowed in
    finishes_held s state id k at p c.in-Some.held.1 c.index-done.result.now c.end.new.self (c.index-done.ensures ∙ get_or_default_zero state.done.items p c.index-done.result.now (omega (arith, less, c.requires.of.sound.dones))) held c.end.ensures.actor

pub returns-clause-room : goal.returns-clause-room
returns-clause-room g c =
    let s = shape_of g.P.Placement.seen c.args.plan.now in let state = c.args.state.now in let id = c.args.actor in let k = c.index_mut-2.result.now in let p = c.args.pipe in
    let at = known_there state id k c.requires.allowed.0 c.index_mut-2.ensures.value in
    let less = finish_pipe s c.requires.valid (lawful_shape g.P.Placement.seen g.met.P.Placement.lawful c.args.plan.now) state c.requires.of id p c.requires.allowed in
    room_set s state.actors.items id c.end.new.self c.requires.of.room (c.end.ensures.room s less (c.requires.of.room id k at))

pub returns-in_default-clause-after : goal.returns-in_default-clause-after
returns-in_default-clause-after c = grind (arith, common_steps)

pub index_mut-requires-2 : goal.index_mut-requires-2
index_mut-requires-2 c = grind (arith, common_steps)

pub index-requires : goal.index-requires
index-requires c = grind (arith, common_steps)
