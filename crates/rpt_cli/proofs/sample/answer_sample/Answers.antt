use Rattle.std.proofs.Common.{◌∙◌, ℕ, List}
use Rattle.std.proofs.lemmas.Result.{err_from_is_err_and}
use Rattle.std.specs.Prelude.{Err, Option, Some}
use Rattle.rpt_outside.specs.Held.{held_bytes}
use Rattle.rpt_outside.specs.Whole.{bytes_of}
use Rattle.rpt_cli.specs.Command.{query_course}
use Rattle.rpt_cli.proofs.Courses.{unfailing}
use Rattle.rpt_cli.proofs.SampleFacts.{number-said, sample-Gives}
use Rattle.rpt_cli.proofs.sample.answer_sample.Goals as goal

pub returns : goal.returns
returns g c =
    let command = c.args.command.now in
    let answer = bytes_of c.answer_bound.result in
    let number = number-said command c.as_str.result.now c.sample_number.result c.unwrap_or-number.result c.unwrap_or-number.ensures c.sample_number.ensures c.as_str.ensures in
    let held : List ℕ → Option (List ℕ) = λ name. Some (held_bytes c.in_ok-files.files.files.items name) in
    sample-Gives command number c.in_ok-script.ensures.tables (c.deref.ensures.value ∙ c.in_ok-script.ensures.script) c.in_ok-files.ensures answer
    (c.in_ok-bound.ensures.passes (unfailing held) (query_course command) answer c.answer_bound.ensures.gives)

pub returns-in_err-bound : goal.returns-in_err-bound
returns-in_err-bound g c =
    let command = c.args.command.now in
    let number = number-said command c.as_str.result.now c.sample_number.result c.unwrap_or-number.result c.unwrap_or-number.ensures c.sample_number.ensures c.as_str.ensures in
    let held : List ℕ → Option (List ℕ) = λ name. Some (held_bytes c.in_ok-files.files.files.items name) in
    let p = err_from_is_err_and c.from_residual-in_err-bound.result c.from_residual-in_err-bound.ensures.1 in
    rw (p.1, p.2)
    (sample-Gives command number c.in_ok-script.ensures.tables (c.deref.ensures.value ∙ c.in_ok-script.ensures.script) c.in_ok-files.ensures (Err c.in_err-bound.field-0.0)
    (c.in_err-bound.ensures.refused (unfailing held) (query_course command)))
