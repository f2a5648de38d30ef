use Rattle.std.proofs.Common.{subst}
use Rattle.bound_query.specs.Query.{BoundQuery}
use Rattle.rpt_outside.specs.Seen.{FilesSeen, seen}
use Rattle.rpt_outside.specs.Whole.{bytes_of}
use Rattle.rpt_cli.specs.Command.{mode_course}
use Rattle.rpt_cli.specs.Course.{Gives}
use Rattle.rpt_cli.proofs.PreparedFacts.{HasOneReason, prepared-Passes, prepared-Stops}
use Rattle.rpt_cli.proofs.modes.answer_bound.Goals as goal

pub returns-in-Err-clause-gives : goal.returns-in-Err-clause-gives
returns-in-Err-clause-gives g c =
    let command = c.args.command.now in
    let bound = c.args.bound in
    let laws : HasOneReason = record { variables = c.has_variables.ensures.one; cyclic = c.has_tree.ensures.one_refusal; prefix = c.has_first_unsafe.ensures.one } in
    prepared-Stops laws bound.query command.order command.force c.in-Err.refusal c.in-Err.ensures.refused (seen g.F.Files c.args.files.now c.args.files.now)
    (λ found. mode_course command.mode command.filter command.folder (record { query = bound.query; known = found.known }) found.order)

pub returns-in-Ok-clause-gives : goal.returns-in-Ok-clause-gives
returns-in-Ok-clause-gives g c =
    let files : FilesSeen = seen g.F.Files c.args.files.now c.in_mode.new.files in
    let command = c.args.command.now in
    let bound = c.args.bound in
    let ready = c.in-Ok.ready in
    let answer = bytes_of c.in_mode.result in
    let gives = subst (λ (b : BoundQuery). Gives files (mode_course command.mode command.filter command.folder b ready.options.order) answer) c.in-Ok.ensures.bound c.in_mode.ensures.gives in
    let laws : HasOneReason = record { variables = c.has_variables.ensures.one; cyclic = c.has_tree.ensures.one_refusal; prefix = c.has_first_unsafe.ensures.one } in
    prepared-Passes laws bound.query command.order command.force (record { known = bound.known; order = ready.options.order }) c.in-Ok.ensures.found files
    (λ found. mode_course command.mode command.filter command.folder (record { query = bound.query; known = found.known }) found.order) answer gives
