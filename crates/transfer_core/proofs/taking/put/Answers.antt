use Rattle.std.proofs.Common.{◌≡◌, ◌∙◌, ap, arith, subst, sym, List, length, get_or}
use Rattle.std.proofs.lemmas.Grind.{common_steps}
use Rattle.transfer_core.specs.Plans.{HasPlace, no_pipe, pipe_at, place_at, shape_of}
use Rattle.transfer_core.proofs.Lists.{place_of_at}
use Rattle.transfer_core.specs.declared.plan.Pipe.{Pipe}
use Rattle.transfer_core.specs.declared.plan.Port.{Port}
use Rattle.transfer_core.specs.Actors.{Actor}
use Rattle.transfer_core.specs.Job.{no_port, port_at}
use Rattle.transfer_core.specs.Words.{put_in}
use Rattle.transfer_core.proofs.AllowedFacts.{at_slice}
use Rattle.transfer_core.proofs.TakingFacts.{item_place, known_at, known_there, puts_item, room_for_put, room_set}
use Rattle.transfer_core.proofs.taking.put.Goals as goal

pub place_in-place-requires : goal.place_in-place-requires
place_in-place-requires g c =
    let s = shape_of g.P.Placement.seen c.args.plan.now in let p = c.args.pipe in
    let x = c.index-as_slice-pipe.result in
    let pat = at_slice s.pipes c.as_slice.result.now p x c.as_slice.ensures (omega (arith, c.requires.allowed.2.0, ap (λ (l : List Pipe). length l) c.as_slice.ensures)) c.index-as_slice-pipe.is in
    let port : get_or c.as_slice-2.result.now c.args.port no_port ≡ port_at (pipe_at s.pipes p).writes c.args.port =
    ap (λ (l : List Port). get_or l c.args.port no_port) c.as_slice-2.ensures ∙ ap (λ (y : Pipe). port_at y.writes c.args.port) (sym (place_of_at s.pipes p x no_pipe pat)) in
    subst (HasPlace s c.args.item) (sym port) (item_place s c.requires.valid p c.args.item c.args.port c.requires.allowed.2)

pub list-requires : goal.list-requires
list-requires g c new =
    let s = shape_of g.P.Placement.seen c.args.plan.now in let state = c.args.state.now in let id = c.args.actor in let k = c.index_mut.result.now in let p = c.args.pipe in
    let at = known_there state id k c.requires.allowed.0 c.index_mut.ensures.value in
    room_for_put s state id k at c.requires.valid c.requires.of p c.args.item c.args.port (ap (λ (a : Actor). a.held) (sym (known_at s state id k at)) ∙ c.requires.allowed.1) c.requires.allowed.2 new

pub returns-clause-after : goal.returns-clause-after
returns-clause-after g c =
    let s = shape_of g.P.Placement.seen c.args.plan.now in let state = c.args.state.now in let id = c.args.actor in let k = c.index_mut.result.now in let p = c.args.pipe in
    let at = known_there state id k c.requires.allowed.0 c.index_mut.ensures.value in
    let x = c.index-as_slice-pipe.result in
    let pat = at_slice s.pipes c.as_slice.result.now p x c.as_slice.ensures (omega (arith, c.requires.allowed.2.0, ap (λ (l : List Pipe). length l) c.as_slice.ensures)) c.index-as_slice-pipe.is in
    let port : get_or c.as_slice-2.result.now c.args.port no_port ≡ port_at (pipe_at s.pipes p).writes c.args.port =
    ap (λ (l : List Port). get_or l c.args.port no_port) c.as_slice-2.ensures ∙ ap (λ (y : Pipe). port_at y.writes c.args.port) (sym (place_of_at s.pipes p x no_pipe pat)) in
    let place : c.place_in-place.result ≡ place_at s (port_at (pipe_at s.pipes p).writes c.args.port) c.args.item = c.place_in-place.ensures.place ∙ ap (λ (b : Port). place_at s b c.args.item) port in
    puts_item s state id k at p c.args.item c.args.port c.put.new.self c.list.new.self (c.put.ensures ∙ λ t. put_in state.words (port t).region (place t).word (place t).mask) c.list.ensures.actor

pub returns-clause-room : goal.returns-clause-room
returns-clause-room g c =
    let s = shape_of g.P.Placement.seen c.args.plan.now in let state = c.args.state.now in let id = c.args.actor in let k = c.index_mut.result.now in let p = c.args.pipe in
    let at = known_there state id k c.requires.allowed.0 c.index_mut.ensures.value in
    room_set s state.actors.items id c.list.new.self c.requires.of.room (c.list.ensures.room s (c.requires.of.room id k at))

pub put-requires-clause-word : goal.put-requires-clause-word
put-requires-clause-word c = grind (arith, common_steps)

pub put-requires-clause-region : goal.put-requires-clause-region
put-requires-clause-region c = grind (arith, common_steps)

pub index_mut-requires : goal.index_mut-requires
index_mut-requires c = grind (arith, common_steps)
