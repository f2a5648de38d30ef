use Rattle.rpt_cli.specs.Command.{course}
use Rattle.rpt_cli.proofs.OutcomeFacts.{HasPlans, HasReadings, course-can, outcome-there}
use Rattle.rpt_cli.proofs.laws.has_outcome.Goals as goal

pub returns : goal.returns
returns c =
    let readings : HasReadings = record {
      listed = c.tokens_are_read.ensures.listed;
      is_listed = c.tokens_are_read.ensures.is_listed;
      refused = c.tokens_are_read.ensures.refused;
      is_refused = c.tokens_are_read.ensures.is_refused;
      never_memory = c.tokens_are_read.ensures.never_memory;
      there = c.has_a_reading.ensures.there;
      one = c.has_one_reading.ensures.one;
    } in
    let plans : HasPlans = record {
      variables = c.has_variables.ensures.there;
      acyclic = λ vs graph. c.has_tree.ensures.refused vs graph.some graph.rising;
      accepted = λ vs order graph is. c.has_first_unsafe.ensures.there vs order graph.rising is;
      plan = λ vs sizes order graph acyclic is. c.has_plan.ensures.there vs sizes order graph.rising acyclic is;
    } in
    record { there = λ told words all. outcome-there told all (course words) (course-can readings plans words) }
