use Rattle.std.proofs.Common.{◌∙◌, ◌++◌, [], ◌∷◌, map, ap, arith}
use Rattle.std.proofs.lemmas.Grind.{common_steps}
use Rattle.std.specs.List.{enumerate_from}
use Rattle.binder.specs.Binding.{column_output}
use Rattle.binder.proofs.GatherFacts.{numbered-end}
use Rattle.binder.proofs.ShownFacts.{shown-columns}
use Rattle.binder.proofs.shown.add_relation.Goals as goal

pub overflow_cast-source : goal.overflow_cast-source
overflow_cast-source c = omega (arith, c.columns-columns.ensures.few)

pub returns : goal.returns
returns c =
    let columns = c.columns-columns.result.now in
    let shown = shown-columns c.args.relation (enumerate_from 0 columns) ∙ ap (λ columns. map (column_output c.args.relation) (enumerate_from 0 columns)) c.columns-columns.ensures.columns in
    numbered-end (λ c'. column_output c.args.relation c' ∷ []) columns c.args.shown.now.items c.loop-place.shown.items c.loop-place.place (omega arith) c.loop-place.invariant
    ∙ ap (λ more. c.args.shown.now.items ++ more) shown

pub loop-place-preserved : goal.loop-place-preserved
loop-place-preserved c = grind (arith, common_steps)
