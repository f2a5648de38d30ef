use Rattle.std.proofs.Common.{◌∙◌, ap, inl, inr, arith}
use Rattle.std.proofs.lemmas.Grind.{common_steps}
use Rattle.std.specs.Prelude.{Err}
use Rattle.rpt_cli.proofs.ScriptFacts.{answer_of, bad-only-as, read-only-as}
use Rattle.rpt_cli.proofs.query.read_script.Goals as goal

pub returns-in-Err-At-clause-only : goal.returns-in-Err-At-clause-only
returns-in-Err-At-clause-only c = λ said is.
    rw c.in-Err-At.offset-is (inr (bad-only-as c.args.bytes.now c.in-Err-At.field-0 c.in-Err-At.offset c.in-Err-At.field-0-is c.in-Err-At.ensures.only
    (λ other bad. elim (c.in-Err-At.ensures.bad_only other bad) [ inl m ↦ inl (cc m) | inr a ↦ inr (cc a) ]) said is))

pub returns-in-Ok-parse-clause-only : goal.returns-in-Ok-parse-clause-only
returns-in-Ok-parse-clause-only c =
    read-only-as c.args.bytes.now c.deref.result.now c.parse.result _ (ap answer_of c.in-Ok-parse.is)
    (λ others lists. c.deref.ensures.value ∙ c.in-Ok.ensures.only others lists)
    (λ offset bad. elim (c.in-Ok.ensures.bad_only offset bad) [ inl m ↦ cc m | inr a ↦ cc a ]) c.parse.ensures.only

pub returns-in-Err-Syntax-clause-only : goal.returns-in-Err-Syntax-clause-only
returns-in-Err-Syntax-clause-only c =
    read-only-as c.args.bytes.now c.deref.result.now c.parse.result _ (ap answer_of (c.in-Err-Syntax.is ∙ ap Err c.in-Err-Syntax.field-0-is))
    (λ others lists. c.deref.ensures.value ∙ c.in-Ok.ensures.only others lists)
    (λ offset bad. elim (c.in-Ok.ensures.bad_only offset bad) [ inl m ↦ cc m | inr a ↦ cc a ]) c.parse.ensures.only

pub returns-in-Err-TooDeep-clause-only : goal.returns-in-Err-TooDeep-clause-only
returns-in-Err-TooDeep-clause-only c =
    read-only-as c.args.bytes.now c.deref.result.now c.parse.result _ (ap answer_of (c.in-Err-TooDeep.is ∙ ap Err c.in-Err-TooDeep.field-0-is))
    (λ others lists. c.deref.ensures.value ∙ c.in-Ok.ensures.only others lists)
    (λ offset bad. elim (c.in-Ok.ensures.bad_only offset bad) [ inl m ↦ cc m | inr a ↦ cc a ]) c.parse.ensures.only

pub returns-in-Ok-parse-clause-says : goal.returns-in-Ok-parse-clause-says
returns-in-Ok-parse-clause-says c = grind (arith, common_steps)
