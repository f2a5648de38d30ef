use Rattle.std.proofs.Common.{◌≡◌, ◌∙◌, ◌++◌, [], ◌∷◌, ap, arith, subst, sym, List, length, map, false}
use Rattle.std.proofs.lemmas.Grind.{common_steps}
use Rattle.std.proofs.lemmas.List.{length-replicate, map-append, replicate_more}
use Rattle.transfer_core.specs.declared.plan.Pipe.{Pipe}
use Rattle.transfer_core.specs.Actors.{Actor, idle}
use Rattle.transfer_core.specs.Plans.{shape_of}
use Rattle.transfer_core.specs.States.{AreDifferent, HasRoom, HasRoomEach, actor_of}
use Rattle.transfer_core.proofs.Keeps.{each_snoc}
use Rattle.transfer_core.proofs.RoomFacts.{none_at}
use Rattle.transfer_core.proofs.state.all_idle.Goals as goal

pub loop-preserved : goal.loop-preserved
loop-preserved g c =
    let s = shape_of g.P.Placement.seen c.args.plan.now in let all = c.loop.all.items in let k = c.in_ok-known.known in
    let new = idle (length c.args.plan.now.pipes) in
    let pushed : c.push.new.self.items ≡ all ++ k ∷ [] = c.in_ok-push.ensures.items in
    let is : actor_of k ≡ new = c.in_ok-known.ensures.actor ∙ ap (λ (l : List Pipe). idle (length l)) c.as_slice-pipes.ensures in
    let room : HasRoom s k = record {
      puts = λ p l. omega (arith, c.in_ok-puts.ensures p l, c.in_ok-known.ensures.puts);
      finished = omega (arith, c.all_morsels-morsels.ensures, c.in_ok-known.ensures.finished);
      marks = ap (λ (a : Actor). length a.seen) is ∙ length-replicate (length c.args.plan.now.pipes) false;
      different = subst AreDifferent (sym (ap (λ (a : Actor). a.puts) is)) tt;
      pipes = none_at (length s.pipes) k.finished.items (ap (λ (a : Actor). a.finished) is);
    } in (
      ap (map actor_of) pushed ∙ map-append actor_of all (k ∷ []) ∙ (λ i. c.loop.invariant.0 i ++ is i ∷ []) ∙ replicate_more c.loop.counter new,
      subst (HasRoomEach s) (sym pushed) (each_snoc (HasRoom s) all k c.loop.invariant.1 room),
    )

pub loop-init : goal.loop-init
loop-init c = grind (arith, common_steps)
