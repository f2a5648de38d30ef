use Rattle.transfer_core.specs.Plans.{shape_of}
use Rattle.transfer_core.specs.States.{IsStateOf}
use Rattle.rpt_engine.specs.Places.{places_of}
use Rattle.transfer_calls.proofs.steps.put_answers.Given as goal

abbrev pub invariant-loop-entry : goal.invariant-loop-entry
invariant-loop-entry l = IsStateOf (shape_of places_of l.plan) l.state
