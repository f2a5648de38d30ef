use Rattle.std.proofs.Common.{◌≡◌, ◌∙◌, ◌<◌, ap, sym, subst, rules, below_more, length, map}
use Rattle.std.specs.Prelude.{slice_index_or}
use Rattle.std.proofs.lemmas.List.{get_or-map, get_or_read}
use Rattle.rpt_engine.specs.Places.{places_of}
use Rattle.transfer_plan.specs.TransferPlan.{SeenEdge, ServesLink, no_edge, no_link, seen_edge}
use Rattle.transfer_calls.proofs.parts.are_edges.Goals as goal

pub loop-place-preserved : goal.loop-place-preserved
loop-place-preserved c =
    let links = c.args.links.now in
    let edges = c.args.edges.now in
    let items = c.args.items.now in
    let place = c.loop-place.place in
    let less : place < length edges = c.loop-place-test.true in
    let e = c.index-edges-place.result in
    let is : e ≡ slice_index_or edges place e = get_or_read edges place e less c.index-edges-place.is e in
    let seen : slice_index_or (map (seen_edge places_of) edges) place no_edge ≡ seen_edge places_of e
    = get_or-map (seen_edge places_of) edges place e no_edge less ∙ ap (seen_edge places_of) (sym is) in
    below_more (λ k. ServesLink items (slice_index_or links k no_link) (slice_index_or (map (seen_edge places_of) edges) k no_edge))
    place c.loop-place.invariant
    (subst (λ (s : SeenEdge). ServesLink items (slice_index_or links place no_link) s) (sym seen) (c.if-not-serves.ensures (search rules)))
