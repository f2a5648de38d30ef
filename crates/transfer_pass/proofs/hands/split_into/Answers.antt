use Rattle.std.proofs.Common.{◌≡◌, ◌++◌, ◌∷◌, [], List, All, length, length-append, arith, ap, sym, ◌∙◌, subst}
use Rattle.std.proofs.lemmas.List.Elements.{All-push}
use Rattle.filter_board.specs.Views.{HandView}
use Rattle.transfer_pass.specs.Rounds.{IsFree}
use Rattle.transfer_pass.proofs.HandFacts.{parts_last}
use Rattle.transfer_pass.proofs.hands.split_into.Goals as goal

pushed : (P : HandView → Type 0) (xs ys : List HandView) (x : HandView) → ys ≡ xs ++ x ∷ [] → All P xs → P x → All P ys
pushed P xs ys x e all one = subst (All P) (sym e) (All-push P xs x all one)

pub loop-preserved : goal.loop-preserved
loop-preserved g c =
    let inv = c.loop.invariant in
    let left = c.split_hand-left.ensures.first in
    let one = c.split_hand-left.ensures.second in
    let items = c.push_reserved.ensures.items in record {
      free = record { own = ap (λ (h : HandView). h.of) left ∙ inv.free.own; free = ap (λ (h : HandView). h.actor.held) left ∙ inv.free.free };
      parts = omega (arith, parts_last _ _ _ items, ap (λ (h : HandView). h.parts) left, ap (λ (h : HandView). h.parts) one, inv.parts, inv.enough, c.loop-test.true);
      enough = omega (arith, ap (λ (h : HandView). h.parts) left, inv.enough, c.loop-test.true);
      seen = ap (λ (h : HandView). h.actor.seen) left ∙ inv.seen;
      made = omega (arith, ap length items, length-append c.loop.hands.items (c.split_hand-left.result.1 ∷ []), inv.made);
      all_free = pushed (IsFree c.args.board.now.of) _ _ _ items inv.all_free (record { own = ap (λ (h : HandView). h.of) one ∙ inv.free.own; free = ap (λ (h : HandView). h.actor.held) one });
      all_seen = pushed (λ (h : HandView). h.actor.seen ≡ c.args.hand.actor.seen) _ _ _ items inv.all_seen (ap (λ (h : HandView). h.actor.seen) one ∙ inv.seen);
      room = c.push_reserved.ensures.capacity ∙ inv.room;
    }

pub returns-clause-free : goal.returns-clause-free
returns-clause-free g c = pushed (IsFree c.args.board.now.of) _ _ _ c.push_reserved-2.ensures.items c.loop.invariant.all_free c.loop.invariant.free

pub returns-clause-parts : goal.returns-clause-parts
returns-clause-parts g c = omega (arith, parts_last _ _ _ c.push_reserved-2.ensures.items, c.loop.invariant.parts)

pub returns-clause-seen : goal.returns-clause-seen
returns-clause-seen g c = pushed (λ (h : HandView). h.actor.seen ≡ c.args.hand.actor.seen) _ _ _ c.push_reserved-2.ensures.items c.loop.invariant.all_seen c.loop.invariant.seen
