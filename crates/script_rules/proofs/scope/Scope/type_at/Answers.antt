use Rattle.std.proofs.Common.{◌∙◌, ap, arith, sym}
use Rattle.script_rules.specs.Scope.{kind_at}
use Rattle.script_rules.proofs.ScopeFacts.{type_at-past, type_at-there}
use Rattle.script_rules.proofs.scope.Scope.type_at.Goals as goal

pub returns-then-column-relations : goal.returns-then-column-relations
returns-then-column-relations c =
    c.kind_at.ensures ∙ ap (λ columns. kind_at columns c.args.column.column) c.columns.ensures.columns ∙ sym (type_at-there c.args.self.now c.args.column (omega arith))

pub returns-else-column-relations : goal.returns-else-column-relations
returns-else-column-relations c = sym (type_at-past c.args.self.now c.args.column (omega arith))
