use Rattle.transfer_core.specs.Steps.{first_state}
use Rattle.transfer_core.proofs.StepFacts.{begins_sound, keeps_sound}
use Rattle.transfer_core.proofs.laws.every_list_is_sound.Goals as goal

pub returns : goal.returns
returns c s V L actors steps d leads = keeps_sound s V L (first_state s actors) d steps (begins_sound s V L actors) leads
