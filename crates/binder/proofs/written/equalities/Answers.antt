use Rattle.std.proofs.Common.{◌∙◌, [], sym, arith}
use Rattle.std.proofs.lemmas.Grind.{common_steps}
use Rattle.std.proofs.lemmas.List.Folds.{flat_map-map}
use Rattle.binder.specs.Binding.{equality_of}
use Rattle.binder.proofs.GatherFacts.{gathered-end}
use Rattle.binder.proofs.written.equalities.Goals as goal

pub returns : goal.returns
returns c =
    let conjuncts = c.args.conjuncts.now in
    let all = gathered-end (λ d. equality_of c.args.scope.now d.now) conjuncts [] c.loop-conjunct.found.items c.loop-conjunct.conjunct-index (omega arith) c.loop-conjunct.invariant in
    all ∙ sym (flat_map-map (equality_of c.args.scope.now) (λ d. d.now) conjuncts)

pub loop-conjunct-preserved : goal.loop-conjunct-preserved
loop-conjunct-preserved c = grind (arith, common_steps)
