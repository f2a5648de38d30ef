use Rattle.std.proofs.Common.{arith}
use Rattle.std.proofs.lemmas.Grind.{common_steps}
use Rattle.std.proofs.lemmas.Result.{IfOk-weaker}
use Rattle.largest_root.proofs.ChainFacts.{chain-one, grown-one, grown-two}
use Rattle.largest_root.proofs.HeaviestFacts.{heaviest}
use Rattle.largest_root.proofs.tree.grow.Goals as goal

pub grow_one-requires-clause-some : goal.grow_one-requires-clause-some
grow_one-requires-clause-some c = chain-one _ _ _ c.relations-relations.ensures.graph.some c.requires.chain c.if-chain-eq1.true

pub returns-then-chain-eq1-clause-heaviest : goal.returns-then-chain-eq1-clause-heaviest
returns-then-chain-eq1-clause-heaviest c =
    IfOk-weaker c.grow_one.result _ _
    (λ t g. heaviest c.args.graph.now c.args.sizes.now c.args.chain.now t c.relations-relations.ensures.graph c.requires.chain
    (grown-one c.args.graph.now c.args.sizes.now c.args.chain.now (record { 0 = 0 }) t c.requires.chain c.if-chain-eq1.true g))
    c.grow_one.ensures

pub returns-clause-heaviest : goal.returns-clause-heaviest
returns-clause-heaviest c =
    IfOk-weaker c.grow_two.result _ _
    (λ t g. heaviest c.args.graph.now c.args.sizes.now c.args.chain.now t c.relations-relations.ensures.graph c.requires.chain
    (grown-two c.args.graph.now c.args.sizes.now c.args.chain.now (record { 0 = 0 }) t c.requires.chain c.if-chain-eq1.false g))
    c.grow_two.ensures

pub grow_two-requires-clause-then : goal.grow_two-requires-clause-then
grow_two-requires-clause-then c = grind (arith, common_steps)

pub grow_two-requires-clause-first : goal.grow_two-requires-clause-first
grow_two-requires-clause-first c = grind (arith, common_steps)
