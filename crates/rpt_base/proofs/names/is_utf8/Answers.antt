use Rattle.std.proofs.Common.{◌∙◌}
use Rattle.rpt_base.proofs.NameFacts.{is_utf8-cases}
use Rattle.rpt_base.proofs.names.is_utf8.Goals as goal

pub returns : goal.returns
returns c = c.is_ok.ensures.value ∙ is_utf8-cases _ _ c.args.bytes.now c.from_utf8.result c.from_utf8.ensures.cases
