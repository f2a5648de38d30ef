use Rattle.std.proofs.Common.{◌∙◌, ◌&&◌, not, ap, sym}
use Rattle.std.specs.List.{list_all}
use Rattle.script_rules.specs.Violations.{is_of_type}
use Rattle.script_rules.proofs.TypeFacts.{differ-types}
use Rattle.script_rules.proofs.operands.differ_from.Goals as goal

pub returns-then-are_known : goal.returns-then-are_known
returns-then-are_known c =
    let others = c.args.others.now in
    let are = list_all (is_of_type c.in-Some.kind) others in
    rw c.in-Some.is (ap not c.are_of_type.ensures ∙ sym (ap (λ b. b && not are) (sym c.are_known.ensures ∙ c.if-are_known.true)) ∙ differ-types c.in-Some.kind others)

pub returns-else-are_known : goal.returns-else-are_known
returns-else-are_known c =
    let others = c.args.others.now in
    let are = list_all (is_of_type c.in-Some.kind) others in
    rw c.in-Some.is (c.if-are_known.false ∙ sym (ap (λ b. b && not are) (sym c.are_known.ensures ∙ c.if-are_known.false)) ∙ differ-types c.in-Some.kind others)
