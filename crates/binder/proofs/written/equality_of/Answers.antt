use Rattle.std.proofs.Common.{◌≡◌, ◌∙◌, [], ◌∷◌, ap, sym}
use Rattle.script_rules.specs.Conjuncts.{columns_in, columns_of_operands}
use Rattle.binder.specs.Binding.{equality_between}
use Rattle.script_rules.proofs.CondFacts.{columns_in-Compare, is_equality-other}
use Rattle.binder.proofs.EqualityFacts.{equality_of-none, equality_of-some}
use Rattle.binder.proofs.written.equality_of.Goals as goal

pub returns-then-not-is_equality : goal.returns-then-not-is_equality
returns-then-not-is_equality c = sym (equality_of-none c.args.scope.now c.args.cond.now (sym c.is_equality.ensures ∙ c.if-not-is_equality.true))

pub returns-in-Compare : goal.returns-in-Compare
returns-in-Compare c =
    let scope = c.args.scope.now in
    let named : columns_in scope c.args.cond.now ≡ columns_of_operands scope (c.in-Compare.left ∷ c.in-Compare.right ∷ []) =
    rw c.in-Compare.is (columns_in-Compare scope c.in-Compare.at c.in-Compare.op c.in-Compare.left c.in-Compare.right) in
    c.equality_between.ensures ∙ ap equality_between (sym named) ∙ sym (equality_of-some scope c.args.cond.now (sym c.is_equality.ensures ∙ c.if-not-is_equality.false))

pub returns-in_default : goal.returns-in_default
returns-in_default c = sym (equality_of-none c.args.scope.now c.args.cond.now (is_equality-other c.args.cond.now (λ at op left right e. c.in_default.not-Compare at op left right e)))
