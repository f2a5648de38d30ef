use Rattle.std.proofs.Common.{◌≡◌, ◌^◌, ◌*◌, ◌%◌, ◌-◌, ◌<◌, ◌≤◌, length, arith, subst}
use Rattle.std.proofs.Math.Pow.{pow-lt}
use Rattle.join_graph.specs.JoinList.{set_of, everyone}
use Rattle.join_graph.proofs.ListFacts.{ones}
use Rattle.join_graph.proofs.graph.Graph.all.Goals as goal

pub returns-clause-all : goal.returns-clause-all
returns-clause-all c =
    let few : length c.args.self.now ≤ 16 = c.relations.ensures.graph.few in
    let below : c.relations.result < 32 = omega (arith, c.relations.ensures.count) in
    let small : 2 ^ c.relations.result < 2 ^ 32 = pow-lt below in
    let plain : 1 * 2 ^ c.relations.result % 4294967296 - 1 ≡ 2 ^ c.relations.result - 1 = omega arith in
    λ r. subst (λ n. set_of (record { 0 = 1 * 2 ^ c.relations.result % 4294967296 - 1 }) r ≡ everyone n r) c.relations.ensures.count (ones c.relations.result _ r plain)
