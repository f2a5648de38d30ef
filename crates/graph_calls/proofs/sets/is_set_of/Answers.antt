use Rattle.std.proofs.Common.{◌<◌, ◌^◌, arith}
use Rattle.std.proofs.lemmas.Grind.{common_steps}
use Rattle.std.proofs.Math.Pow.{pow-lt}
use Rattle.join_graph.proofs.ListFacts.{bits-set}
use Rattle.graph_calls.proofs.sets.is_set_of.Goals as goal

pub returns-then-least-lt32 : goal.returns-then-least-lt32
returns-then-least-lt32 c = λ odd.
    let few : c.args.relations < 32 = omega (arith, c.if-relations-gt-MAX_RELATIONS.false) in
    let below : 2 ^ c.args.relations < 2 ^ 32 = pow-lt few in
    let small : c.args.set.0 < 2 ^ c.args.relations = omega (arith, below, c.if-set-relations.false) in
    bits-set c.args.relations c.args.set.0 _ small odd

pub returns-else-least-lt32 : goal.returns-else-least-lt32
returns-else-least-lt32 c = grind (arith, common_steps)

pub returns-then-relations-gt-MAX_RELATIONS : goal.returns-then-relations-gt-MAX_RELATIONS
returns-then-relations-gt-MAX_RELATIONS c = grind (arith, common_steps)
