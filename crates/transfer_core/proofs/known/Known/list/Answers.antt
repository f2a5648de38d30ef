use Rattle.std.proofs.Common.{◌∙◌, ap, arith, subst, sym, is_ok}
use Rattle.transfer_core.specs.States.{AreDifferent}
use Rattle.transfer_core.proofs.RoomFacts.{after_push, different_snoc}
use Rattle.transfer_core.specs.Actors.{is_listed}
use Rattle.transfer_core.proofs.known.Known.list.Goals as goal

pub returns-then-not-is_listed-clause-room : goal.returns-then-not-is_listed-clause-room
returns-then-not-is_listed-clause-room c s r = record {
  puts = λ p l. omega (arith, r.puts p l, c.push.ensures.capacity);
  finished = r.finished;
  marks = r.marks;
  different = subst AreDifferent (sym c.push.ensures.items)
      (after_push AreDifferent c.args.self.now.puts.items (c.args.item, c.args.port) (is_ok c.push.result) r.different
      (different_snoc c.args.item c.args.port c.args.self.now.puts.items r.different (ap (λ l. is_listed c.args.item c.args.port l) (sym c.as_slice.ensures.value) ∙ sym c.is_listed.ensures ∙ c.if-not-is_listed.true)));
  pipes = r.pipes;
}
