use Rattle.std.proofs.Common.{◌∙◌, sym}
use Rattle.script_rules.proofs.CondFacts.{is_equality-Compare, is_equality-other}
use Rattle.script_rules.proofs.conjuncts.is_equality.Goals as goal

pub returns-in-Compare : goal.returns-in-Compare
returns-in-Compare c =
    c.is_column_equality.ensures ∙ rw c.in-Compare.is (sym (is_equality-Compare c.in-Compare.at c.in-Compare.op c.in-Compare.left c.in-Compare.right))

pub returns-in_default : goal.returns-in_default
returns-in_default c = sym (is_equality-other c.args.cond.now (λ at op left right e. c.in_default.not-Compare at op left right e))
