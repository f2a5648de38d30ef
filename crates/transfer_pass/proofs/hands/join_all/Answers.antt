use Rattle.std.proofs.Common.{arith, ap, ◌∙◌}
use Rattle.transfer_core.specs.Actors.{is_marked}
use Rattle.filter_board.specs.Views.{HandView}
use Rattle.transfer_pass.specs.Rounds.{IsFree, IsToldFirst}
use Rattle.transfer_pass.proofs.HandFacts.{all_front, all_last, marked_left, parts_last}
use Rattle.transfer_pass.proofs.hands.join_all.Goals as goal

pub loop-hand-init : goal.loop-hand-init
loop-hand-init g c =
    let items = c.in-Some.ensures.items in record {
      free = all_last (IsFree c.args.board.now.of) _ _ _ items c.requires.free;
      parts = omega (arith, parts_last _ _ _ items);
      left = all_front (IsFree c.args.board.now.of) _ _ _ items c.requires.free;
      told = λ n each. all_last (IsToldFirst n) _ _ _ items each;
      room = c.in-Some.ensures.capacity;
    }

pub loop-hand-preserved : goal.loop-hand-preserved
loop-hand-preserved g c =
    let items = c.in-Some-pop.ensures.items in
    let all = c.join_hands-all.ensures.joined in
    let inv = c.loop-hand.invariant in record {
      free = record { own = ap (λ (h : HandView). h.of) all ∙ inv.free.own; free = ap (λ (h : HandView). h.actor.held) all };
      parts = omega (arith, parts_last _ _ _ items, ap (λ (h : HandView). h.parts) all, inv.parts);
      left = all_front (IsFree c.args.board.now.of) _ _ _ items inv.left;
      told = λ n each p l. ap (λ (h : HandView). is_marked h.told p) all ∙ marked_left _ _ p (inv.told n each p l);
      room = c.in-Some-pop.ensures.capacity ∙ inv.room;
    }
