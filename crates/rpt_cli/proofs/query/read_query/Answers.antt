use Rattle.std.proofs.lemmas.Result.{err_from_is_err_and}
use Rattle.rpt_cli.specs.Command.{bytes_course}
use Rattle.rpt_cli.proofs.ScriptFacts.{query-Passes, query-Stops}
use Rattle.rpt_cli.proofs.query.read_query.Goals as goal

pub returns-clause-passes : goal.returns-clause-passes
returns-clause-passes g c =
    query-Passes g.F.Files c.args.files.now c.fetch.new.files c.args.name.now c.in_ok-bytes.bytes.items c.deref.result.now c.deref.ensures.value c.in_ok-bytes.ensures.passes
    c.query_in.result c.query_in.ensures.passes

pub returns-clause-refused : goal.returns-clause-refused
returns-clause-refused g c =
    query-Stops g.F.Files c.args.files.now c.fetch.new.files c.args.name.now c.in_ok-bytes.bytes.items c.deref.result.now c.deref.ensures.value c.in_ok-bytes.ensures.passes
    c.query_in.result c.query_in.ensures.refused

pub returns-in_err-bytes-clause-refused : goal.returns-in_err-bytes-clause-refused
returns-in_err-bytes-clause-refused g c =
    let p = err_from_is_err_and c.from_residual.result c.from_residual.ensures.1 in
    rw (p.1, p.2) (λ next. c.in_err-bytes.ensures.refused (λ bytes. bytes_course bytes next))
