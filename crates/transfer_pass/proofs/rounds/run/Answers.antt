use Rattle.std.proofs.Common.{◌≡◌, ◌<◌, ◌+◌, All, length, drop, true≢false, arith, ap, sym, ◌∙◌, subst}
use Rattle.std.proofs.lemmas.Grind.{common_steps}
use mathlib.Core.Logic.{dite}
use native.Mathlib.Decide.{dec_le}
use Rattle.transfer_core.specs.Actors.{is_marked}
use Rattle.filter_board.specs.Views.{HandView}
use Rattle.transfer_pass.specs.Rounds.{HasSeenFirst, IsFree, IsToldFirst, all_parts}
use Rattle.transfer_pass.proofs.HandFacts.{taken}
use Rattle.transfer_pass.proofs.rounds.run.Goals as goal

pub rounds-preserved : goal.rounds-preserved
rounds-preserved g c =
    let inv = c.rounds.invariant in
    let pipes = length c.args.board.plan.pipes in
    let less : c.rounds.round < pipes = dite (dec_le pipes c.rounds.round)
    (λ past. absurd (true≢false (sym (c.sees_all.ensures.told (λ p l. inv.told p (omega arith))) ∙ c.rounds-test.true)))
    (λ before. omega arith) in
    let hand_seen : HasSeenFirst c.rounds.round c.sees_all.new.hand = λ p l. c.sees_all.ensures.seen p (omega arith) (inv.told p l) in
    let long : length c.work_all.new.hands ≡ c.split_into.new.hands.len = omega (arith, c.work_all.auto.hands, ap length c.as_mut_slice.ensures.value, c.split_into.new.hands.ok) in
    let back = taken c.split_into.new.hands.len c.work_all.new.hands (drop (length c.work_all.new.hands) c.split_into.new.hands.items) long in
    let each_seen : All (HasSeenFirst c.rounds.round) c.as_mut_slice.result.now =
    subst (All (HasSeenFirst c.rounds.round)) (sym c.as_mut_slice.ensures.value)
    (λ k d l p before. ap (λ marks. is_marked marks p) (c.split_into.ensures.seen k d l) ∙ hand_seen p before) in record {
      free = c.join_all-all-in-rounds.ensures.free;
      parts = c.join_all-all-in-rounds.ensures.parts ∙ ap all_parts back ∙ c.work_all.ensures.parts ∙ ap all_parts c.as_mut_slice.ensures.value ∙ c.split_into.ensures.parts
          ∙ ap (λ (h : HandView). h.parts) c.sees_all.ensures.same ∙ inv.parts;
      told = c.join_all-all-in-rounds.ensures.told (c.rounds.round + 1)
          (subst (All (IsToldFirst (c.rounds.round + 1))) (sym back) (c.work_all.ensures.told c.rounds.round less each_seen));
      rounds = omega arith;
      empty = c.join_all-all-in-rounds.ensures.empty;
      room = omega (arith, c.join_all-all-in-rounds.ensures.room, c.split_into.ensures.room, inv.room);
    }

pub rounds-init : goal.rounds-init
rounds-init g c = record {
  free = c.join_all-all.ensures.free;
  parts = c.join_all-all.ensures.parts ∙ c.requires.parts;
  told = λ p before. absurd (omega arith);
  rounds = omega arith;
  empty = c.join_all-all.ensures.empty;
  room = omega (arith, c.join_all-all.ensures.room, c.len-count.ensures, c.args.hands.ok);
}

pub work_all-requires : goal.work_all-requires
work_all-requires g c =
    let free : All (IsFree c.args.board.of) c.as_mut_slice.result.now =
    subst (All (IsFree c.args.board.of)) (sym c.as_mut_slice.ensures.value) c.split_into.ensures.free in
    let few : length c.as_mut_slice.result.now < 4294967295 =
    omega (arith, ap length c.as_mut_slice.ensures.value, c.split_into.ensures.count, c.len-count.ensures, c.args.hands.ok, c.requires.few) in
    (c.type_bounds.send-P, (c.type_bounds.sync-P, (c.type_bounds.sync-R, (c.type_bounds.sync-G, (free, few)))))

pub join_all-all-requires-in-rounds-clause-free : goal.join_all-all-requires-in-rounds-clause-free
join_all-all-requires-in-rounds-clause-free g c =
    let long : length c.work_all.new.hands ≡ c.split_into.new.hands.len = omega (arith, c.work_all.auto.hands, ap length c.as_mut_slice.ensures.value, c.split_into.new.hands.ok) in
    let back = taken c.split_into.new.hands.len c.work_all.new.hands (drop (length c.work_all.new.hands) c.split_into.new.hands.items) long in
    subst (All (IsFree c.args.board.of)) (sym back) c.work_all.ensures.free

pub close-sealed-requires-clause-seen : goal.close-sealed-requires-clause-seen
close-sealed-requires-clause-seen g c = grind (arith, common_steps)

pub returns : goal.returns
returns g c = c.of.ensures ∙ (λ i. record { words = c.close-sealed.ensures.sealed i; pipes = (c.close-sealed.ensures.plan i).pipes })

pub join_all-all-requires-clause-some : goal.join_all-all-requires-clause-some
join_all-all-requires-clause-some c = grind (arith, common_steps)

pub split_into-requires-clause-parts : goal.split_into-requires-clause-parts
split_into-requires-clause-parts c = grind (arith, common_steps)

pub join_all-all-requires-in-rounds-clause-some : goal.join_all-all-requires-in-rounds-clause-some
join_all-all-requires-in-rounds-clause-some c = grind (arith, common_steps)

pub overflow_add-round : goal.overflow_add-round
overflow_add-round c = grind (arith, common_steps)
