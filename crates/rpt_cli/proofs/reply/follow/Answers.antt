use Rattle.std.proofs.Common.{◌∙◌, subst, sym}
use Rattle.std.proofs.lemmas.Bool.{cond-false, cond-true}
use Rattle.rpt_outside.specs.Seen.{FilesSeen, seen}
use Rattle.rpt_outside.specs.Whole.{bytes_of}
use Rattle.rpt_cli.specs.Command.{files_course, is_made, sample_course}
use Rattle.rpt_cli.specs.Course.{Course, Gives}
use Rattle.rpt_cli.proofs.reply.follow.Goals as goal

pub returns-then-is_made-clause-gives : goal.returns-then-is_made-clause-gives
returns-then-is_made-clause-gives g c =
    let files : FilesSeen = seen g.F.Files c.args.files.now c.args.files.now in
    let command = c.args.command.now in
    let made = cond-true (is_made command.mode) (sample_course command) (files_course command) (sym c.is_made.ensures ∙ c.if-is_made.true) in
    subst (λ (course : Course). Gives files course (bytes_of c.answer_sample.result)) (sym made) (c.answer_sample.ensures files)

pub returns-else-is_made-clause-gives : goal.returns-else-is_made-clause-gives
returns-else-is_made-clause-gives g c =
    let files : FilesSeen = seen g.F.Files c.args.files.now c.answer_files.new.files in
    let command = c.args.command.now in
    let read = cond-false (is_made command.mode) (sample_course command) (files_course command) (sym c.is_made.ensures ∙ c.if-is_made.false) in
    subst (λ (course : Course). Gives files course (bytes_of c.answer_files.result)) (sym read) c.answer_files.ensures.gives
