use Rattle.std.proofs.Common.{◌<◌, ◌+◌, length, arith, sym, subst}
use Rattle.transfer_pass.specs.Rounds.{HasSeenFirst, IsToldFirst}
use Rattle.transfer_pass.proofs.HandFacts.{parts_same}
use Rattle.transfer_pass.proofs.rounds.work_all.Goals as goal

pub returns-clause-parts : goal.returns-clause-parts
returns-clause-parts g c = let long = c.for_each_mut.auto.s in parts_same _ _ long (λ k d l. grind (arith, c.for_each_mut.ensures k d l))

-- the third clause of the closure is the last of the call's
pub returns-clause-told : goal.returns-clause-told
returns-clause-told g c n less seen k d l =
    let there : k < length c.args.hands.now = omega (arith, c.for_each_mut.auto.s) in
    let one = (c.for_each_mut.ensures k d there).1 in
    subst (IsToldFirst (n + 1)) one.left (one.call.1.1 n less (subst (HasSeenFirst n) (sym one.argument_is) (seen k d there)))
