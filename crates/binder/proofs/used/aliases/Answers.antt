use Rattle.std.proofs.Common.{◌∙◌, map, ap, arith}
use Rattle.std.proofs.lemmas.Grind.{common_steps}
use Rattle.script_rules.specs.Scope.{name_of}
use Rattle.binder.proofs.GatherFacts.{mapped-end}
use Rattle.binder.proofs.used.aliases.Goals as goal

pub returns : goal.returns
returns c =
    c.from_vec.ensures
    ∙ mapped-end name_of c.as_slice-source-items.result.now c.loop-source.names.items c.loop-source.source-index (omega arith) c.loop-source.invariant
    ∙ ap (map name_of) c.as_slice-source-items.ensures

pub loop-source-preserved : goal.loop-source-preserved
loop-source-preserved c = grind (arith, common_steps)
