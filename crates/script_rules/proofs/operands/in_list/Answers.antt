use Rattle.std.proofs.Common.{◌∙◌, ◌+◌, List, ap, sym, subst, arith}
use Rattle.std.specs.Prelude.{Option, None}
use Rattle.sql_grammar.specs.declared.tree.Item.{Item}
use Rattle.script_rules.specs.declared.found.Violation.{Violation}
use Rattle.script_rules.specs.Violations.{first_of, reference_violations}
use Rattle.script_rules.proofs.ViolationFacts.{IsNoted, noted-more, noted-end}
use Rattle.script_rules.proofs.operands.in_list.Goals as goal

pub loop-item-preserved : goal.loop-item-preserved
loop-item-preserved c =
    let violations : Item → List Violation = λ i. reference_violations c.args.scope.now i.column in
    let e = c.in_reference-found.ensures ∙ ap (λ member. first_of c.loop-item.found (violations member)) c.item-item.is in
    let P : Option Violation → Type 0 = λ found. IsNoted violations c.args.items.now None found (c.loop-item.item-index + 1) in
    subst P (sym e) (noted-more violations c.args.items.now None c.loop-item.found c.loop-item.item-index c.item-item.result (omega arith) c.loop-item.invariant)

pub returns : goal.returns
returns c =
    let violations : Item → List Violation = λ i. reference_violations c.args.scope.now i.column in
    noted-end violations c.args.items.now None c.loop-item.found c.loop-item.item-index (omega arith) c.loop-item.invariant
