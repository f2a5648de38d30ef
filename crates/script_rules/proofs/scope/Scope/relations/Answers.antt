use Rattle.std.proofs.Common.{◌∙◌, ap, length}
use Rattle.script_rules.proofs.ScopeFacts.{scope-length, scope-limit}
use Rattle.script_rules.proofs.scope.Scope.relations.Goals as goal

pub returns-clause-count : goal.returns-clause-count
returns-clause-count c = ap length c.as_slice.ensures ∙ scope-length c.self.inside.script.now c.args.self.now c.self.view_is

pub returns-clause-limit : goal.returns-clause-limit
returns-clause-limit c = scope-limit c.self.inside.script.now c.args.self.now c.self.view_is c.self.invariant
