use Rattle.std.proofs.Common.{◌∙◌, ◌+◌, List, ap, sym, subst, arith}
use Rattle.std.specs.Prelude.{Option}
use Rattle.std.specs.List.{flat_map}
use Rattle.std.proofs.lemmas.List.{append-nil}
use Rattle.sql_grammar.specs.declared.tree.Cond.{Cond}
use Rattle.script_rules.specs.declared.found.Violation.{Violation}
use Rattle.script_rules.specs.Conjuncts.{parts_of}
use Rattle.script_rules.specs.Violations.{conjunct_violations, first_of}
use Rattle.script_rules.proofs.CondFacts.{parts_of-And, parts_of-other}
use Rattle.script_rules.proofs.ConjunctFacts.{violations_in-each}
use Rattle.script_rules.proofs.ViolationFacts.{IsNoted, noted-more, noted-end}
use Rattle.script_rules.proofs.conditions.+in_parts.Goals as goal

pub in_parts-returns-in-And : goal.in_parts-returns-in-And
in_parts-returns-in-And t c =
    c.in_all_parts.ensures ∙ rw (c.as_slice.ensures, c.in-And.is) (ap (λ parts. first_of c.args.found (flat_map (conjunct_violations c.args.scope.now) parts)) (sym (parts_of-And c.in-And.members)))

pub in_parts-returns-in_default : goal.in_parts-returns-in_default
in_parts-returns-in_default t c =
    let violations = conjunct_violations c.args.scope.now in
    c.in_conjunct.ensures
    ∙ ap (first_of c.args.found) (sym (append-nil (violations c.args.cond.now)))
    ∙ ap (λ parts. first_of c.args.found (flat_map violations parts)) (sym (parts_of-other c.args.cond.now (λ members e. c.in_default.not-And members e)))

pub in_all_parts-loop-cond-preserved : goal.in_all_parts-loop-cond-preserved
in_all_parts-loop-cond-preserved t c =
    let violations : Cond → List Violation = λ (x : Cond). flat_map (conjunct_violations c.args.scope.now) (parts_of x) in
    let e = c.in_parts-found.ensures ∙ ap (λ member. first_of c.loop-cond.found (violations member)) c.cond-item.is in
    let P : Option Violation → Type 0 = λ found. IsNoted violations c.args.conds.now c.args.found found (c.loop-cond.cond-index + 1) in
    subst P (sym e) (noted-more violations c.args.conds.now c.args.found c.loop-cond.found c.loop-cond.cond-index c.cond-item.result (omega arith) c.loop-cond.invariant)

pub in_all_parts-returns : goal.in_all_parts-returns
in_all_parts-returns t c =
    let violations : Cond → List Violation = λ (x : Cond). flat_map (conjunct_violations c.args.scope.now) (parts_of x) in
    noted-end violations c.args.conds.now c.args.found c.loop-cond.found c.loop-cond.cond-index (omega arith) c.loop-cond.invariant
    ∙ ap (first_of c.args.found) (sym (violations_in-each c.args.scope.now c.args.conds.now))
