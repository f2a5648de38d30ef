use Rattle.std.proofs.Common.{◌∙◌, ap, inr, List, arith}
use Rattle.std.proofs.lemmas.Grind.{common_steps}
use Rattle.std.specs.Prelude.{Ok}
use Rattle.column_table.specs.Table.{Rows}
use Rattle.rpt_engine.specs.Answered.{plan_of}
use Rattle.rpt_cli.specs.Command.{explain_text}
use Rattle.rpt_cli.specs.Course.{Ends}
use Rattle.rpt_cli.proofs.explain.explain.Goals as goal

pub returns-clause-gives : goal.returns-clause-gives
returns-clause-gives g c =
    let ready = c.args.ready.now in
    let plan = plan_of c.in_ok-found.found.outcome in
    c.in_ok-found.ensures.passes (λ found. Ends (Ok (explain_text ready.options.filter ready.bound found.0 found.1))) (g.F.Files.faults c.answer_query.new.files) (Ok c.in_ok-text.text.items)
    (inr (ap Ok (◌∙◌ {b = explain_text ready.options.filter ready.bound c.as_slice.result.now plan} c.in_ok-text.ensures (ap (λ (ts : List Rows). explain_text ready.options.filter ready.bound ts plan) c.as_slice.ensures.value))))

pub explain_text-text-requires-clause-tells : goal.explain_text-text-requires-clause-tells
explain_text-text-requires-clause-tells c = grind (arith, common_steps)
