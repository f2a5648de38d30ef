use Rattle.std.proofs.Common.{◌∙◌, map, ap, arith}
use Rattle.std.proofs.lemmas.Grind.{common_steps}
use Rattle.binder.specs.Binding.{table_number}
use Rattle.binder.proofs.GatherFacts.{mapped-end}
use Rattle.binder.proofs.used.table_numbers.Goals as goal

pub returns : goal.returns
returns c =
    let number = table_number c.args.tables.now in
    mapped-end number c.as_slice-source-items.result.now c.loop-source.numbers.items c.loop-source.source-index (omega arith) c.loop-source.invariant
    ∙ ap (map number) c.as_slice-source-items.ensures

pub loop-source-preserved : goal.loop-source-preserved
loop-source-preserved c = grind (arith, common_steps)
