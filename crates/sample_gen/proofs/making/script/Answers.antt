use Rattle.sample_gen.specs.Script.{sample_script}
use Rattle.sample_gen.proofs.making.script.Goals as goal

pub returns-clause-script : goal.returns-clause-script
unfolding sample_script
returns-clause-script c = c.in_ok-script.ensures.items
