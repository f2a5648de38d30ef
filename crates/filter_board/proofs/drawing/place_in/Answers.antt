use Rattle.std.proofs.Common.{◌≡◌, arith, ap, sym, subst, ◌∙◌, get_or}
use Rattle.std.proofs.lemmas.Grind.{common_steps}
use Rattle.std.proofs.lemmas.List.{get_or-map, length-map}
use Rattle.key_codes.specs.Placement.{IsLawful, Places, place_of}
use Rattle.key_codes.specs.declared.places.Place.{Place}
use Rattle.transfer_core.specs.Plans.{no_places, places_at, shape_of, words_of}
use Rattle.filter_board.proofs.drawing.place_in.Goals as goal

pub returns-clause-inside : goal.returns-clause-inside
returns-clause-inside g c =
    let s = shape_of g.P.Placement.seen c.args.plan.now in
    let x = c.index-as_slice-port.result in
    let k = c.args.port.places in
    let here : x ≡ get_or c.args.plan.now.places k x = c.index-as_slice-port.is ∙ ap (λ l. get_or l k x) c.as_slice-2.ensures in
    let e : places_at s k ≡ g.P.Placement.seen x = get_or-map g.P.Placement.seen c.args.plan.now.places k x no_places (omega (arith, c.requires.places, length-map {A = g.row.P.Denot} {B = Places} c.args.plan.now.places g.P.Placement.seen)) ∙ ap g.P.Placement.seen (sym here) in
    let inside = (subst IsLawful (sym e) (g.met.P.Placement.lawful x)).inside c.args.item (words_of s c.args.port.region) c.requires.inside c.requires.least c.requires.some in
    let is = ap (λ (p : Place). p.word) (c.place.ensures ∙ λ i. place_of (sym e i) c.args.item (get_or (c.as_slice.ensures i) c.args.port.region 0)) in
    omega (arith, inside, is)

pub returns-clause-place : goal.returns-clause-place
returns-clause-place g c = grind (arith, common_steps)

pub place-requires-clause-item : goal.place-requires-clause-item
place-requires-clause-item g c = grind (arith, common_steps)

pub bounds-as_slice-port-2 : goal.bounds-as_slice-port-2
bounds-as_slice-port-2 g c = grind (arith, common_steps)

pub offset_bounds-as_slice-port-2 : goal.offset_bounds-as_slice-port-2
offset_bounds-as_slice-port-2 g c = grind (arith, common_steps)

pub place-requires-clause-least : goal.place-requires-clause-least
place-requires-clause-least g c = grind (arith, common_steps)
