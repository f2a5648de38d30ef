use Rattle.std.proofs.Common.{◌∙◌, ◌≤◌, Vec, Global, ℕ, ap, arith, length, rules, subst, take_all}
use Rattle.std.proofs.lemmas.Grind.{common_steps}
use Rattle.std.specs.List.{All}
use Rattle.std.specs.List.Sorted.{IsStrictlyIncreasing}
use Rattle.std.proofs.lemmas.List.Elements.{All-more}
use Rattle.graph_calls.proofs.sets.are_rising.Goals as goal

pub loop-set-preserved : goal.loop-set-preserved
loop-set-preserved c =
    let here = subst IsStrictlyIncreasing (c.deref.ensures.value ∙ ap (λ (s : Vec ℕ Global). s.items) c.set-item.is) (c.if-not-rises.ensures (search rules)) in
    All-more (λ (s : Vec ℕ Global). IsStrictlyIncreasing s.items) c.args.sets.now c.loop-set.set-index c.set-item.result c.loop-set-test.true c.loop-set.invariant here

pub returns : goal.returns
returns c =
    let all : length c.args.sets.now ≤ c.loop-set.set-index = omega arith in
    λ _. subst (All (λ (s : Vec ℕ Global). IsStrictlyIncreasing s.items)) (take_all c.loop-set.set-index c.args.sets.now all) c.loop-set.invariant

pub returns-then-not-rises : goal.returns-then-not-rises
returns-then-not-rises c = grind (arith, common_steps)
