use Rattle.std.proofs.Common.{◌≡◌, ℕ, ◌+◌, ◌*◌, ◌<◌, List, length, map, get_or, length-set, arith, refl, ap, ◌∙◌}
use Rattle.std.proofs.lemmas.Grind.{common_steps}
use Rattle.std.specs.Slots.{slots_items}
use Rattle.std.specs.Vec.{with_items}
use Rattle.std.proofs.lemmas.List.{with_items_is}
use Rattle.transfer_core.specs.declared.plan.Pipe.{Pipe}
use Rattle.transfer_core.specs.Actors.{is_marked}
use Rattle.transfer_core.specs.Plans.{shape_of}
use Rattle.transfer_core.specs.Words.{sealed_words}
use Rattle.filter_board.specs.Layout.{index_of}
use Rattle.filter_board.specs.Views.{BoardView, HandView}
use Rattle.filter_board.proofs.BoardFacts.{facts}
use Rattle.filter_board.proofs.CopyFacts.{copied_more, left_more, length_map, map_at, region_is, regions_are}
use Rattle.filter_board.proofs.Moves.{closes_as}
use Rattle.filter_board.proofs.Offsets.{offset_room, start_is}
use Rattle.filter_board.proofs.board.Board.close.Goals as goal

pub overflow_add-first : goal.overflow_add-first
overflow_add-first g c =
    let plan = c.self.inside.setup.plan in
    let f = facts g.P.Placement.seen g.met.P.Placement.lawful _ _ _ _ _ (record { of = c.self.inside.table.shared.table_id; plan = c.self.inside.setup.plan; workers = c.self.inside.setup.workers }) c.self.invariant refl in
    let end : c.len-region-end.result ≡ length c.self.inside.rooms.items = omega (arith, c.len-region-end.ensures, c.self.inside.rooms.ok) in
    let less : c.loop-region.region < length c.self.inside.setup.plan.words = omega (arith, c.loop-region-test.true, end, f.rooms_are.count, length_map (λ w. w.items) (shape_of g.P.Placement.seen plan) c.self.inside.rooms.items) in
    let start = start_is plan.words c.self.inside.starts.items c.loop-region.region c.index.result.now f.starts_are less c.index.ensures in
    omega (arith, start, ap (λ (l : List Pipe). length l) c.as_slice-pipes.ensures, offset_room plan.words c.loop-region.region less, f.words, f.addressed)

pub copy_words-requires-clause-inside : goal.copy_words-requires-clause-inside
copy_words-requires-clause-inside g c =
    let plan = c.self.inside.setup.plan in
    let s = shape_of g.P.Placement.seen c.self.inside.setup.plan in
    let f = facts g.P.Placement.seen g.met.P.Placement.lawful _ _ _ _ _ (record { of = c.self.inside.table.shared.table_id; plan = c.self.inside.setup.plan; workers = c.self.inside.setup.workers }) c.self.invariant refl in
    let end : c.len-region-end.result ≡ length c.self.inside.rooms.items = omega (arith, c.len-region-end.ensures, c.self.inside.rooms.ok) in
    let less : c.loop-region.region < length c.self.inside.setup.plan.words = omega (arith, c.loop-region-test.true, end, f.rooms_are.count, length_map (λ w. w.items) s c.self.inside.rooms.items) in
    let start = start_is plan.words c.self.inside.starts.items c.loop-region.region c.index.result.now f.starts_are less c.index.ensures in
    let r = c.loop-region.region in let i = c.loop-region.invariant in
    let room = ap (λ (l : List ℕ). length l) (map_at (λ w. w.items) s c.loop-region.rooms.items r c.index_mut.result.now (omega (arith, less, i.count)) c.index_mut.ensures.value) in
    omega (arith, start, ap (λ (l : List Pipe). length l) c.as_slice-pipes.ensures, room, i.left r (omega arith) less, ap (λ (l : List ℕ). length l) c.as_mut_slice.ensures.value, offset_room plan.words r less, f.words, c.close_with-closed.ensures.counts.0)

pub loop-region-preserved : goal.loop-region-preserved
loop-region-preserved g c =
    let plan = c.self.inside.setup.plan in
    let s = shape_of g.P.Placement.seen c.self.inside.setup.plan in
    let f = facts g.P.Placement.seen g.met.P.Placement.lawful _ _ _ _ _ (record { of = c.self.inside.table.shared.table_id; plan = c.self.inside.setup.plan; workers = c.self.inside.setup.workers }) c.self.invariant refl in
    let end : c.len-region-end.result ≡ length c.self.inside.rooms.items = omega (arith, c.len-region-end.ensures, c.self.inside.rooms.ok) in
    let less : c.loop-region.region < length c.self.inside.setup.plan.words = omega (arith, c.loop-region-test.true, end, f.rooms_are.count, length_map (λ w. w.items) s c.self.inside.rooms.items) in
    let start = start_is plan.words c.self.inside.starts.items c.loop-region.region c.index.result.now f.starts_are less c.index.ensures in
    let r = c.loop-region.region in let i = c.loop-region.invariant in
    let room = ap (λ (l : List ℕ). length l) (map_at (λ w. w.items) s c.loop-region.rooms.items r c.index_mut.result.now (omega (arith, less, i.count)) c.index_mut.ensures.value) in
    let long : length c.copy_words.new.region ≡ get_or c.self.inside.setup.plan.words c.loop-region.region 0 = omega (arith, room, i.left r (omega arith) less, ap (λ (l : List ℕ). length l) c.as_mut_slice.ensures.value, c.copy_words.auto.region) in
    let lent : length c.as_mut_slice.result.now ≡ length c.index_mut.result.now.items = ap (λ (l : List ℕ). length l) c.as_mut_slice.ensures.value in
    let sealed_at = closes_as _ _ _ _ f.right f.same f.parts _ _ _ _
    (λ p l. ap (λ (h : HandView). is_marked h.actor.seen p) c.hand.view_is ∙ c.requires.seen p (omega (arith, l, ap (λ (b : BoardView g.row.P.Denot). length b.plan.pipes) c.self.view_is)))
    c.close_with-closed.ensures.values.2 in
    let copied = region_is s r c.copy_words.new.region long (λ k l.
    let at : 2 * length c.as_slice-pipes.result.now + c.index.result.now + k ≡ index_of (shape_of g.P.Placement.seen c.self.inside.setup.plan) c.loop-region.region k = omega (arith, start, ap (λ (l : List Pipe). length l) c.as_slice-pipes.ensures) in
    c.copy_words.ensures k l ∙ ap (λ (n : ℕ). get_or (slots_items c.close_with-closed.result.words) n 0) at ∙ sealed_at r k (less, omega (arith, l, long))) in record {
      count = length-set c.loop-region.rooms.items c.loop-region.region _ ∙ i.count;
      copied = copied_more (λ w. w.items) s c.loop-region.rooms.items r (with_items c.index_mut.result.now c.copy_words.new.region) (omega (arith, less, i.count))
          (with_items_is c.index_mut.result.now c.copy_words.new.region (omega (arith, lent, c.copy_words.auto.region, c.index_mut.result.now.ok)) ∙ copied) i.copied;
      left = left_more (λ w. w.items) s c.loop-region.rooms.items r (with_items c.index_mut.result.now c.copy_words.new.region) i.left;
    }

pub returns-clause-sealed : goal.returns-clause-sealed
returns-clause-sealed g c =
    let plan = c.self.inside.setup.plan in
    let s = shape_of g.P.Placement.seen c.self.inside.setup.plan in
    let f = facts g.P.Placement.seen g.met.P.Placement.lawful _ _ _ _ _ (record { of = c.self.inside.table.shared.table_id; plan = c.self.inside.setup.plan; workers = c.self.inside.setup.workers }) c.self.invariant refl in
    let end : c.len-region-end.result ≡ length c.self.inside.rooms.items = omega (arith, c.len-region-end.ensures, c.self.inside.rooms.ok) in
    let i = c.loop-region.invariant in
    c.of.ensures ∙ regions_are s (map (λ w. w.items) c.loop-region.rooms.items) (length_map (λ w. w.items) s c.loop-region.rooms.items ∙ i.count)
    (λ r l. i.copied r (omega (arith, l, c.loop-region-test.false, end, f.rooms_are.count, length_map (λ w. w.items) s c.self.inside.rooms.items)))
    ∙ ap (λ (b : BoardView g.row.P.Denot). sealed_words (shape_of g.P.Placement.seen b.plan)) c.self.view_is

pub loop-region-init : goal.loop-region-init
loop-region-init g c = grind (arith, common_steps)

pub index_mut-requires : goal.index_mut-requires
index_mut-requires g c = grind (arith, common_steps)

pub index-requires : goal.index-requires
index-requires g c = grind (arith, common_steps)

pub returns-clause-plan : goal.returns-clause-plan
returns-clause-plan g c = grind (arith, common_steps)
