use Rattle.std.proofs.lemmas.Result.{err_from_is_err_and}
use Rattle.rpt_outside.specs.Whole.{bytes_of}
use Rattle.rpt_cli.specs.Command.{query_course}
use Rattle.rpt_cli.proofs.reply.answer_files.Goals as goal

pub returns-in_err-bound-clause-gives : goal.returns-in_err-bound-clause-gives
returns-in_err-bound-clause-gives g c =
    let p = err_from_is_err_and c.from_residual.result c.from_residual.ensures.1 in
    rw (p.1, p.2) (c.in_err-bound.ensures.refused (query_course c.args.command.now))

pub returns-clause-gives : goal.returns-clause-gives
returns-clause-gives g c =
    c.in_ok-bound.ensures.passes (query_course c.args.command.now) (g.F.Files.faults c.answer_bound.new.files) (bytes_of c.answer_bound.result) c.answer_bound.ensures.gives
