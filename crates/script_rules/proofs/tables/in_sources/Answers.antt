use Rattle.std.proofs.Common.{◌∙◌, ◌+◌, take, ap, sym, subst, arith}
use Rattle.std.specs.Prelude.{Option, None}
use Rattle.script_rules.specs.declared.found.Violation.{Violation}
use Rattle.script_rules.specs.Violations.{source_violations, first_of}
use Rattle.script_rules.proofs.ViolationFacts.{IsNotedBehind, noted_behind-more, noted_behind-end}
use Rattle.script_rules.proofs.tables.in_sources.Goals as goal

pub loop-number-preserved : goal.loop-number-preserved
loop-number-preserved c =
    let x = c.index-sources-number.result in
    let e = c.in_source-found.ensures ∙ ap (λ member. first_of c.loop-number.found ((source_violations c.args.tables.now) (take c.loop-number.number c.args.sources.now) member)) c.index-sources-number.is in
    let P : Option Violation → Type 0 = λ found. IsNotedBehind (source_violations c.args.tables.now) c.args.sources.now None found (c.loop-number.number + 1) in
    subst P (sym e) (noted_behind-more (source_violations c.args.tables.now) c.args.sources.now None c.loop-number.found c.loop-number.number x (omega arith) c.loop-number.invariant)

pub returns : goal.returns
returns c = noted_behind-end (source_violations c.args.tables.now) c.args.sources.now None c.loop-number.found c.loop-number.number (omega arith) c.loop-number.invariant
