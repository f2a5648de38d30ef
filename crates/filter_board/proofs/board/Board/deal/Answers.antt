use Rattle.std.proofs.Common.{◌≡◌, ◌+◌, ◌-◌, ◌<◌, rules, arith, ap, refl, ◌∙◌}
use Rattle.std.proofs.lemmas.Grind.{common_steps}
use Rattle.atomic_table.specs.Table.{Me}
use Rattle.filter_board.specs.declared.share.Share.{Share}
use Rattle.filter_board.specs.Shares.{parts_of}
use Rattle.filter_board.specs.Views.{BoardView}
use Rattle.filter_board.proofs.BoardFacts.{facts}
use Rattle.filter_board.proofs.DealFacts.{left_less, hand_is, one_more}
use Rattle.filter_board.proofs.Moves.{splits_as}
use Rattle.filter_board.proofs.board.Board.deal.Goals as goal

pub split_seat-other-requires : goal.split_seat-other-requires
split_seat-other-requires g c = let f = facts g.P.Placement.seen g.met.P.Placement.lawful _ _ _ _ _ _ c.self.invariant c.self.view_is in let i = c.loop.invariant in (
  search rules,
  omega (arith, f.words, f.valid.some),
  splits_as _ _ _ _ f.right f.same f.parts _ _ (parts_of 1) _ refl (omega arith)
      (omega (arith, ap (λ (m : Me (Unit {0}) Share). m.0.parts) i.left, c.loop-test.true, ap (λ (b : BoardView g.row.P.Denot). b.workers) c.self.view_is)),
)

pub loop-preserved : goal.loop-preserved
loop-preserved g c = let i = c.loop.invariant in let s = c.split_seat-other.ensures in
    let left : c.loop.counter < c.args.self.now.workers = omega (arith, c.loop-test.true, ap (λ (b : BoardView g.row.P.Denot). b.workers) c.self.view_is) in record {
      own = s.0 ∙ i.own;
      left = left_less c.args.self.now.workers c.loop.counter c.loop.seat.me c.split_seat-other.new.seat.me left s.2 i.left;
      dealt = one_more _ c.of.result c.loop.counter (c.loop.counter + 1 - 1) c.loop.hands.items c.push_reserved.new.self.items c.loop.auto.counter (omega arith) c.push_reserved.ensures.items i.dealt
          (hand_is c.args.self.now.of c.split_seat-other.result.table_id (parts_of 1) c.split_seat-other.result.me _ c.of.ensures (s.3 ∙ i.own) (ap (λ (m : Me (Unit {0}) Share). m.0.parts) s.4));
      room = omega (arith, i.room, c.push_reserved.ensures.capacity);
    }

pub returns : goal.returns
returns g c = let i = c.loop.invariant in
    let all : c.loop.counter ≡ c.args.self.now.workers = omega (arith, c.requires.workers, c.loop-test.false, c.loop.auto.counter-end, ap (λ (b : BoardView g.row.P.Denot). b.workers) c.self.view_is) in
    let one : c.loop.seat.me.0.parts ≡ parts_of 1 = omega (arith, all, ap (λ (m : Me (Unit {0}) Share). m.0.parts) i.left) in
    one_more _ c.of-2.result c.loop.counter c.args.self.now.workers c.loop.hands.items c.push_reserved-2.new.self.items c.loop.auto.counter all c.push_reserved-2.ensures.items i.dealt (hand_is c.args.self.now.of c.loop.seat.table_id (parts_of 1) c.loop.seat.me _ c.of-2.ensures i.own one)

pub push_reserved-requires : goal.push_reserved-requires
push_reserved-requires g c = grind (arith, common_steps)

pub push_reserved-requires-2 : goal.push_reserved-requires-2
push_reserved-requires-2 g c = grind (arith, common_steps)
