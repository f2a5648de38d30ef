use Rattle.std.proofs.Common.{◌∙◌, ap, inr, List, arith}
use Rattle.std.proofs.lemmas.Grind.{common_steps}
use Rattle.std.specs.Prelude.{Ok}
use Rattle.column_table.specs.Table.{Rows}
use Rattle.rpt_engine.specs.Answered.{plan_of}
use Rattle.rpt_cli.specs.Command.{summary_text}
use Rattle.rpt_cli.specs.Course.{Ends}
use Rattle.rpt_cli.proofs.summary.summary.Goals as goal

pub returns-clause-gives : goal.returns-clause-gives
returns-clause-gives g c =
    let ready = c.args.ready.now in
    let plan = plan_of c.in_ok-found.found.outcome in
    c.in_ok-found.ensures.passes (λ found. Ends (Ok (summary_text ready.options.filter ready.bound found.0 found.1))) (g.F.Files.faults c.answer_query.new.files) (Ok c.in_ok-text.text.items)
    (inr (ap Ok (◌∙◌ {b = summary_text ready.options.filter ready.bound c.as_slice.result.now plan} c.in_ok-text.ensures (ap (λ (ts : List Rows). summary_text ready.options.filter ready.bound ts plan) c.as_slice.ensures.value))))

pub summary_text-text-requires-clause-tells : goal.summary_text-text-requires-clause-tells
summary_text-text-requires-clause-tells c = grind (arith, common_steps)

pub summary_text-text-requires-clause-answer : goal.summary_text-text-requires-clause-answer
summary_text-text-requires-clause-answer c = grind (arith, common_steps)
