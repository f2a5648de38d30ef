use Rattle.std.proofs.Common.{subst, sym}
use Rattle.command_words.specs.declared.words.Mode.{Mode}
use Rattle.rpt_outside.specs.Seen.{FilesSeen, seen}
use Rattle.rpt_outside.specs.Whole.{bytes_of}
use Rattle.rpt_cli.specs.Command.{mode_course}
use Rattle.rpt_cli.specs.Course.{Gives}
use Rattle.rpt_cli.proofs.modes.in_mode.Goals as goal

pub returns-in-Check-clause-gives : goal.returns-in-Check-clause-gives
returns-in-Check-clause-gives g c =
    let files : FilesSeen = seen g.F.Files c.args.files.now c.args.files.now in
    let command = c.args.command.now in
    let ready = c.args.ready.now in
    subst (λ (m : Mode). Gives files (mode_course m command.filter command.folder ready.bound ready.options.order) (bytes_of c.check.result)) (sym c.in-Check.is)
    (c.check.ensures files)
