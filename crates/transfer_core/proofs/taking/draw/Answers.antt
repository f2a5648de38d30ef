use Rattle.std.proofs.Common.{◌∙◌, arith, get_or, lt-ltb}
use Rattle.std.proofs.lemmas.Grind.{get_or_default_zero, common_steps}
use Rattle.transfer_core.specs.Plans.{shape_of}
use Rattle.transfer_core.specs.Job.{job_of}
use Rattle.transfer_core.proofs.TakingFacts.{draws_next, known_there, room_set}
use Rattle.transfer_core.proofs.taking.draw.Goals as goal

pub returns-then-next-morsels-clause-after : goal.returns-then-next-morsels-clause-after
returns-then-next-morsels-clause-after g c =
    let s = shape_of g.P.Placement.seen c.args.plan.now in let state = c.args.state.now in let id = c.args.actor in let k = c.index_mut-then-next-morsels.result.now in let p = c.args.pipe in
    let at = known_there state id k c.requires.allowed.0 c.index_mut-then-next-morsels.ensures.value in
    let is = c.index-next.ensures ∙ get_or_default_zero state.next.items p c.index-next.result.now (omega (arith, c.requires.allowed.1, c.requires.of.sound.nexts)) in
    draws_next s state id k at p c.index-next.result.now c.hold.new.self is (lt-ltb (get_or state.next.items p 0) ((job_of s).morsels p) (omega (arith, c.if-next-morsels.true, is, c.morsels.ensures))) c.hold.ensures.actor

pub returns-then-next-morsels-clause-room : goal.returns-then-next-morsels-clause-room
returns-then-next-morsels-clause-room g c =
    let s = shape_of g.P.Placement.seen c.args.plan.now in let state = c.args.state.now in let id = c.args.actor in let k = c.index_mut-then-next-morsels.result.now in let p = c.args.pipe in
    let at = known_there state id k c.requires.allowed.0 c.index_mut-then-next-morsels.ensures.value in
    room_set s state.actors.items id c.hold.new.self c.requires.of.room (c.hold.ensures.room s (c.requires.of.room id k at))

pub index_mut-requires-then-next-morsels : goal.index_mut-requires-then-next-morsels
index_mut-requires-then-next-morsels c = grind (arith, common_steps)
