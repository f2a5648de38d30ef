use Rattle.std.proofs.Common.{◌∙◌, ◌+◌, take, ap, sym, subst, arith}
use Rattle.std.specs.Prelude.{Option}
use Rattle.script_rules.specs.declared.found.Violation.{Violation}
use Rattle.script_rules.specs.Violations.{column_violations, first_of}
use Rattle.script_rules.proofs.ViolationFacts.{IsNotedBehind, noted_behind-more, noted_behind-end}
use Rattle.script_rules.proofs.tables.in_columns.Goals as goal

pub loop-number-preserved : goal.loop-number-preserved
loop-number-preserved c =
    let x = c.index-columns-number.result in
    let e = c.in_column-found.ensures ∙ ap (λ member. first_of c.loop-number.found (column_violations (take c.loop-number.number c.args.columns.now) member)) c.index-columns-number.is in
    let P : Option Violation → Type 0 = λ found. IsNotedBehind column_violations c.args.columns.now c.args.found found (c.loop-number.number + 1) in
    subst P (sym e) (noted_behind-more column_violations c.args.columns.now c.args.found c.loop-number.found c.loop-number.number x (omega arith) c.loop-number.invariant)

pub returns : goal.returns
returns c = noted_behind-end column_violations c.args.columns.now c.args.found c.loop-number.found c.loop-number.number (omega arith) c.loop-number.invariant
