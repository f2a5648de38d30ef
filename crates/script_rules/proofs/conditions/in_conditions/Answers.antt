use Rattle.std.proofs.Common.{◌∙◌, ◌+◌, List, ap, sym, subst, arith}
use Rattle.std.specs.Prelude.{Option, None}
use Rattle.std.specs.List.{flat_map}
use Rattle.std.specs.Option.{option_to_list}
use Rattle.sql_grammar.specs.declared.tree.Source.{Source}
use Rattle.script_rules.specs.declared.found.Violation.{Violation}
use Rattle.script_rules.specs.Violations.{violations_in, first_of}
use Rattle.script_rules.proofs.ViolationFacts.{IsNoted, noted-more, noted-end}
use Rattle.script_rules.proofs.ConjunctFacts.{violations_in-script}
use Rattle.script_rules.proofs.conditions.in_conditions.Goals as goal

pub loop-source-preserved : goal.loop-source-preserved
loop-source-preserved c =
    let violations : Source → List Violation = λ s. violations_in c.args.scope.now (option_to_list s.on) in
    let sources = c.as_slice-source-items.result.now in
    let e = c.in_some-found.ensures ∙ ap (λ member. first_of c.loop-source.found (violations member)) c.source-item.is in
    let P : Option Violation → Type 0 = λ found. IsNoted violations sources None found (c.loop-source.source-index + 1) in
    subst P (sym e) (noted-more violations sources None c.loop-source.found c.loop-source.source-index c.source-item.result (omega arith) c.loop-source.invariant)

pub returns : goal.returns
returns c =
    let violations : Source → List Violation = λ s. violations_in c.args.scope.now (option_to_list s.on) in
    let sources = c.as_slice-source-items.result.now in
    let filter = violations_in c.args.scope.now (option_to_list c.args.script.now.select.filter) in
    let all = noted-end violations sources None c.loop-source.found c.loop-source.source-index (omega arith) c.loop-source.invariant in
    let same = ap (λ members. first_of None (flat_map violations members)) c.as_slice-source-items.ensures in
    c.in_some.ensures ∙ ap (λ found. first_of found filter) (all ∙ same) ∙ sym (violations_in-script c.args.scope.now c.args.script.now None)
