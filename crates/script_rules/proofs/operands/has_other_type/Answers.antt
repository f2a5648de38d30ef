use Rattle.std.proofs.Common.{◌∙◌, not, ap, sym}
use Rattle.script_rules.proofs.TypeFacts.{differ-values}
use Rattle.script_rules.proofs.operands.has_other_type.Goals as goal

pub returns : goal.returns
returns c = ap not c.are_all.ensures ∙ sym (differ-values c.args.first c.args.values.now)
