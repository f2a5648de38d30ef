use Rattle.std.proofs.Common.{◌∙◌, [], ◌∷◌, map, ap, sym, arith}
use Rattle.std.proofs.lemmas.Grind.{common_steps}
use Rattle.std.proofs.lemmas.List.Folds.{flat_map-map}
use Rattle.predicate.specs.declared.tree.Pred.TheVariants as pred
use Rattle.binder.specs.Binding.{condition_of, conditions_in}
use Rattle.binder.proofs.GatherFacts.{gathered-end}
use Rattle.binder.proofs.PredFacts.{conditions-each}
use Rattle.binder.proofs.translate.condition_of.Goals as goal

pub returns : goal.returns
unfolding condition_of
returns c =
    let scope = c.args.scope.now in
    let r = c.args.relation in
    let conjuncts = c.args.conjuncts.now in
    let all = gathered-end (λ d. conditions_in scope r (d.now ∷ [])) conjuncts [] c.loop-conjunct.all.items c.loop-conjunct.conjunct-index (omega arith) c.loop-conjunct.invariant in
    ap pred.And
    (c.from_vec.ensures ∙ all
    ∙ sym (flat_map-map (λ d. conditions_in scope r (d ∷ [])) (λ d. d.now) conjuncts)
    ∙ conditions-each scope r (map (λ d. d.now) conjuncts))

pub loop-conjunct-preserved : goal.loop-conjunct-preserved
loop-conjunct-preserved c = grind (arith, common_steps)
