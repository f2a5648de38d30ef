use Rattle.transfer_core.proofs.StepFacts.{reads_sealed}
use Rattle.transfer_core.proofs.laws.reads_sealed_words.Goals as goal

pub returns : goal.returns
returns c s V L d sound id r w looks = reads_sealed s V L d sound id r w looks.1 looks.0 looks.2
