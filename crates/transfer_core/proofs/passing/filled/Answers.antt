use Rattle.std.proofs.Common.{ℕ, List, ap, sym, ◌∙◌, arith, length, get_or, subst}
use Rattle.std.proofs.lemmas.Grind.{common_steps}
use Rattle.std.proofs.lemmas.List.FromFn.{length-map-range_with_len}
use Rattle.transfer_core.specs.declared.plan.Port.{Port}
use Rattle.key_codes.specs.declared.places.Place.{Place}
use Rattle.std.specs.Prelude.{All}
use Rattle.std.specs.Global.{Vec}
use Rattle.transfer_core.specs.Plans.{HasPlace, shape_of}
use Rattle.transfer_core.specs.Sealed.{or_below, passes, put_of}
use Rattle.transfer_core.specs.Words.{regions_of}
use Rattle.transfer_core.proofs.WordFacts.{fills_more, fills_none, fills_start}
use Rattle.transfer_core.proofs.passing.filled.Goals as goal
use Rattle.transfer_core.proofs.passing.filled.Goals.{then-passes, else-passes}

pub loop-item-init : goal.loop-item-init
loop-item-init g c = (
  ap (λ (l : List ℕ). get_or l c.args.port.region 0) c.as_slice.ensures,
  c.in_ok-filled.ensures.items_if_clones_equal (λ x h. h) ∙ fills_start (shape_of g.P.Placement.seen c.args.plan.now) (regions_of c.args.words.now) c.args.pipe.now.reads c.args.port (get_or c.as_slice.result.now c.args.port.region 0),
)

pub passes-requires-clause-places : goal.passes-requires-clause-places
passes-requires-clause-places g c = subst (λ (l : List Port). All (HasPlace (shape_of g.P.Placement.seen c.args.plan.now) c.loop-item.item) l) (sym c.as_slice-in-loop-item.ensures) (c.requires.reads c.loop-item.item c.loop-item-test.true)

pub index_mut-requires : goal.index_mut-requires
index_mut-requires g c = let i = c.loop-item.invariant in
    omega (arith, c.place_in-place.ensures.inside, i.0, ap (λ (l : List ℕ). length l) i.1, length-map-range_with_len (λ w. or_below (put_of (shape_of g.P.Placement.seen c.args.plan.now) (regions_of c.args.words.now) c.args.pipe.now.reads c.args.port w) c.loop-item.item) 0 (get_or c.as_slice.result.now c.args.port.region 0))

pub loop-item-preserved : goal.loop-item-preserved
loop-item-preserved g c = let i = c.loop-item.invariant in
    let s = shape_of g.P.Placement.seen c.args.plan.now in
    let R = regions_of c.args.words.now in
    let is = c.passes.ensures ∙ ap (λ (l : List Port). passes s R c.loop-item.item l) c.as_slice-in-loop-item.ensures in (
      i.0,
      elim c.if-passes.branch [
        | then-passes w ↦ ap (λ (v : Vec ℕ). v.items) w.filled-is ∙ fills_more s R c.args.pipe.now.reads c.args.port _ c.loop-item.item w.place_in-place.result.word w.index_mut.result.now w.place_in-place.result.mask c.loop-item.filled.items i.1
            (sym is ∙ w.if-passes.true) (ap (λ (x : Place). x.word) w.place_in-place.ensures.place) (ap (λ (x : Place). x.mask) w.place_in-place.ensures.place) (omega (arith, w.place_in-place.ensures.inside, i.0)) w.index_mut.ensures.value
        | else-passes w ↦ ap (λ (v : Vec ℕ). v.items) w.filled-is ∙ fills_none s R c.args.pipe.now.reads c.args.port _ c.loop-item.item c.loop-item.filled.items i.1 (sym is ∙ w.if-passes.false)
      ],
    )

pub passes-requires-clause-sized : goal.passes-requires-clause-sized
passes-requires-clause-sized c = grind (arith, common_steps)
