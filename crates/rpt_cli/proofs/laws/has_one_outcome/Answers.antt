use Rattle.rpt_cli.proofs.OutcomeFacts.{HasReadings, outcome-one}
use Rattle.rpt_cli.proofs.PreparedFacts.{HasOneReason}
use Rattle.rpt_cli.proofs.laws.has_one_outcome.Goals as goal

pub returns : goal.returns
returns c =
    let readings : HasReadings = record {
      listed = c.tokens_are_read.ensures.listed;
      is_listed = c.tokens_are_read.ensures.is_listed;
      refused = c.tokens_are_read.ensures.refused;
      is_refused = c.tokens_are_read.ensures.is_refused;
      never_memory = c.tokens_are_read.ensures.never_memory;
      there = c.has_a_reading.ensures.there;
      one = c.has_one_reading.ensures.one;
    } in
    let laws : HasOneReason = record { variables = c.has_variables.ensures.one; cyclic = c.has_tree.ensures.one_refusal; prefix = c.has_first_unsafe.ensures.one } in
    record { one = outcome-one readings laws c.has_plan.ensures.one }
